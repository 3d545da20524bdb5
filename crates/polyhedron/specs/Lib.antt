-- The definitions of crate `polyhedron`, and the statement of demand 3; below steps what its inner functions promise, below laws their laws.
pub mod PointLists
pub mod Rewritten
pub mod Demand3
pub mod steps
pub mod laws
