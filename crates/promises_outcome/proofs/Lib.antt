pub mod Decided
pub mod Exports
