-- What the inner functions of crate `mesh_questions` promise to each other.
pub mod Accepted
pub mod Finite
