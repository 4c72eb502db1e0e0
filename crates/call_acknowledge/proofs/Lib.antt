pub mod Laws
pub mod CodeLaws
