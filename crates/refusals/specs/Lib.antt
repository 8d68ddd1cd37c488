pub mod Limit
pub mod Sheet
pub mod Answers
pub mod Unwritten
