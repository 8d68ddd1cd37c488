pub mod Keys
pub mod Codes
pub mod Letters
pub mod Blocks
pub mod Buckets
pub mod Examples
