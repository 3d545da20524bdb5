-- What the inner functions of crate `walks` promise to each other.
pub mod Leaves
pub mod Stacks
pub mod NodePlanes
pub mod Casts
pub mod Kept
