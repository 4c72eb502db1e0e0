pub mod Outcome
pub mod Exports
