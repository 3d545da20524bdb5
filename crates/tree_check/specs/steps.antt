-- What the inner functions of crate `tree_check` promise to each other.
pub mod CheckSteps
