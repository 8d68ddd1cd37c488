pub mod Items
pub mod FormLaws
pub mod ShortLaws
