pub mod Text
pub mod Few
