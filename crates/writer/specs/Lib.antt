pub mod Identifiers
pub mod Values
pub mod Putting
pub mod Writing
pub mod Limits
