pub mod Reload
pub mod Length
