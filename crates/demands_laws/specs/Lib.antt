pub mod Cases
pub mod Sites
pub mod Examples
pub mod Deletion
pub mod Sheet
pub mod TellsApart
