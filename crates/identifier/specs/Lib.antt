pub mod Texts
pub mod Order
pub mod Ulid
pub mod Numbers
pub mod Identity
pub mod Composite
