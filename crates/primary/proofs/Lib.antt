pub mod Places
pub mod Readings
pub mod Composites
pub mod Keys
