pub mod Values
pub mod Record
