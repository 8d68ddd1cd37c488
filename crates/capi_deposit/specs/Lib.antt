pub mod Deposit
