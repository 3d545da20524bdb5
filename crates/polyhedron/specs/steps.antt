-- What the inner functions of crate `polyhedron` promise to each other.
pub mod Answerable
pub mod Points
