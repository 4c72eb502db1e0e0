pub mod Laws
pub mod Behind
pub mod CodeLaws
