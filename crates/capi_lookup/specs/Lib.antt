pub mod Current
pub mod Explanation
