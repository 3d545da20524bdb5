-- The definitions of crate `tree_check`; below steps what its inner functions promise, below laws their laws.
pub mod Check
pub mod steps
pub mod laws
