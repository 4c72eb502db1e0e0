pub mod CodeLaws
pub mod Length
