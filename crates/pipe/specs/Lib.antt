pub mod Limit
pub mod Taking
pub mod Step
pub mod Sessions
pub mod Whole
pub mod Examples
pub mod States
pub mod Feeding
