pub mod Reading
pub mod Bounds
pub mod Acceptance
pub mod Scan
pub mod Search
pub mod Walk
