pub mod Acknowledge
pub mod Answers
