-- The definitions of crate `geom`; below laws their laws.
pub mod Tolerance
pub mod Segments
pub mod Polygons
pub mod Angles
pub mod laws
