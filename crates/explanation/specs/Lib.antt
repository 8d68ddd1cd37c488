pub mod Reasons
pub mod Answers
pub mod Starts
pub mod Facts
pub mod Exactly
pub mod Examples
