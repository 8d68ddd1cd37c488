pub mod Bytes
pub mod State
pub mod WellFormed
pub mod Answers
pub mod Exactly
