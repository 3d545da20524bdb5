-- What the inner functions of crate `math` promise to each other.
pub mod Corners
