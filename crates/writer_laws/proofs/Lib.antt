pub mod Meaning
pub mod ReadBack
pub mod Added
pub mod VersionPart
pub mod TellsApart
