-- The definitions of crate `scan`; below steps what its inner functions promise, below laws their laws.
pub mod Scan
pub mod Answers
pub mod Closest
pub mod Rays
pub mod steps
pub mod laws
