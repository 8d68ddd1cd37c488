pub mod Layout
pub mod Found
pub mod Stands
pub mod Passing
