pub mod Answers
pub mod TellsApart
