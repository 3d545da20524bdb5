-- The definitions of crate `tree`; below steps what its inner functions promise, below laws their laws.
pub mod Tree
pub mod TreeRules
pub mod steps
pub mod laws
