-- The laws of the definitions of crate `math`.
pub mod VectorLaws
pub mod Enclosing
pub mod Alike
pub mod Chunks
pub mod CornerLaws
