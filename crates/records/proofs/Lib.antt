mod Places
mod Readings
pub mod Mapped
