-- The laws of the definitions of crate `lent`.
pub mod OverLaws
pub mod ReorderedLaws
