-- What the inner functions of crate `scan` promise to each other.
pub mod VoteSteps
pub mod Slabs
