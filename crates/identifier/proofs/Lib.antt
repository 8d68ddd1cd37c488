pub mod Searches
pub mod Rules
mod Ranges
