pub mod Packing
pub mod Written
pub mod Calls
pub mod Exactly
