pub mod Request
pub mod Candidate
