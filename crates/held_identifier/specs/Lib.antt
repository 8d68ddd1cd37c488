pub mod Held
pub mod Writing
pub mod RoundTrips
