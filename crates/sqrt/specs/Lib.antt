-- The definitions of crate `sqrt`; below steps what its inner functions promise. The theorems that lead to IEEE 754 are in proofs/RootTheorem.antt.
pub mod Root
pub mod steps
