pub mod Exactly
pub mod Deposited
pub mod Walks
pub mod Rules
pub mod Read
pub mod Ends
