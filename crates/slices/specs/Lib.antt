pub mod Logic
pub mod Lists
pub mod Tables
pub mod Bytes
pub mod Places
pub mod Overwriting
