-- The laws of the definitions of crate `builder`.
pub mod BuilderLaws
pub mod BuilderTheorem
pub mod BuilderSize
