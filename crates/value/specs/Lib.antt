pub mod Fields
pub mod Header
pub mod HeadersAlike
pub mod Reading
pub mod ReadingLaws
