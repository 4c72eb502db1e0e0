pub mod Parts
pub mod Serving
pub mod CodeLaws
