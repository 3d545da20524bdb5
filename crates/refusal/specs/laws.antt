-- The laws of the definitions of crate `refusal`.
pub mod NumberLaws
pub mod VerdictLaws
pub mod Places
pub mod Returned
