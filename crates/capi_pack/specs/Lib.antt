pub mod Scan
pub mod Search
