pub mod Keys
pub mod Written
pub mod Calls
pub mod Blocks
pub mod Equal
pub mod Holds
pub mod TellsApart
