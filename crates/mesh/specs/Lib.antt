-- The definitions of crate `mesh`; below steps what its inner functions promise, below laws their laws.
pub mod Triangles
pub mod MeshBoxes
pub mod Mesh
pub mod WorkPlaces
pub mod steps
pub mod laws
