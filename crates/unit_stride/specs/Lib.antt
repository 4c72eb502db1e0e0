pub mod Units
pub mod Behind
