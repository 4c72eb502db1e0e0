pub mod Turns
pub mod View
