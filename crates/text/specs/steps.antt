-- What the inner functions of crate `text` promise to each other.
pub mod LineAt
