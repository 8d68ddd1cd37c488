pub mod Written
pub mod Calls
pub mod Equal
pub mod Holds
