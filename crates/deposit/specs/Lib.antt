pub mod Profile
pub mod Exactly
pub mod Packs
pub mod Deposited
pub mod Answers
