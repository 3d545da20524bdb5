-- What the inner functions of crate `float` promise to each other.
pub mod Remainder
