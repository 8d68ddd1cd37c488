pub mod Parts
pub mod Filling
pub mod PartsAlike
pub mod Answers
pub mod Exactly
pub mod Examples
