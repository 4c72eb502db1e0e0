pub mod Fetches
pub mod Length
