pub mod Finding
pub mod Answers
pub mod Sources
pub mod Exactly
pub mod Inside
pub mod Examples
