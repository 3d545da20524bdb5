-- The laws of the definitions of crate `text`.
pub mod LineLaws
pub mod GoodTexts
pub mod FieldLaws
pub mod FieldTheorem
pub mod ListingLaws
pub mod LineFeeds
