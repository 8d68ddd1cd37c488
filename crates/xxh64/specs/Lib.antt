pub mod Xxh64
pub mod Parts
