pub mod Passes
pub mod Writes
pub mod Acceptance
pub mod Search
pub mod Walk
