-- The laws of the definitions of crate `tree_check`.
pub mod CheckLaws
pub mod Places
