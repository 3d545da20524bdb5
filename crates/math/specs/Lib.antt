-- The definitions of crate `math`; below steps what its inner functions promise, below laws their laws.
pub mod Vectors
pub mod BoundingBoxes
pub mod steps
pub mod laws
