-- The definitions of crate `shapes`; below laws their laws.
pub mod Shapes
pub mod BoxShapes
pub mod Round
pub mod Polylines
pub mod Planes
pub mod laws
