-- The lemmas of the proofs of crate `float`.
pub mod Rests
