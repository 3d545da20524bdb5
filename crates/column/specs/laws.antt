-- The laws of the definitions of crate `column`.
pub mod CallLaws
pub mod AnswerLaws
pub mod NumberLaws
