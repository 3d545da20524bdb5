-- The definitions of crate `edges`; below steps what its inner functions promise, below laws their laws.
pub mod Edges
pub mod steps
pub mod laws
