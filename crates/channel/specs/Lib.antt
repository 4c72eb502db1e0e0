pub mod Set
pub mod Candidate
pub mod Ending
pub mod Reset
