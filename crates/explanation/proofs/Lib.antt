mod Searches
mod Rows
mod Lines
mod Endings
pub mod Facts
pub mod Exactly
