pub mod Deletion
pub mod Sheet
pub mod TellsApart
