pub mod Set
pub mod Controller
pub mod Choice
pub mod Fetching
pub mod Step
pub mod Answers
