pub mod Bulk
pub mod Calls
pub mod Handing
pub mod Written
