pub mod Laws
pub mod CodeLaws
pub mod Strides
