-- The definitions of crate `walks`; below steps what its inner functions promise, below laws their laws.
pub mod Walks
pub mod steps
pub mod laws
