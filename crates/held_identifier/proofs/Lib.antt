pub mod Structs
pub mod Buffers
