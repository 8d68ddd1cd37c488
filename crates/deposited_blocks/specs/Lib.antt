pub mod Same
pub mod Found
pub mod Answers
pub mod TellsApart
