-- The definitions of crate `bvh`: what the builder promises. Below steps what its inner functions promise, below laws their laws.
pub mod Build
pub mod steps
pub mod laws
