-- What the inner functions of crate `bvh` promise to each other.
pub mod Subtree
pub mod Node
pub mod Median
pub mod Extent
