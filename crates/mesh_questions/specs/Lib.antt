-- The definitions of crate `mesh_questions`; below steps what its inner functions promise, below laws their laws.
pub mod Mesh
pub mod Faces
pub mod MeshQuestions
pub mod steps
pub mod laws
