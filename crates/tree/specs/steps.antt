-- What the inner functions of crate `tree` promise to each other.
pub mod AcceptedTree
pub mod TreeTest
pub mod Counting
