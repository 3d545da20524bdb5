-- What the inner functions of crate `edges` promise to each other.
pub mod Below
pub mod Pairs
