pub mod Mode
pub mod Reasons
