pub mod Loops
pub mod Maps
pub mod Counted
pub mod Tables
