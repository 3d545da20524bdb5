-- What the inner functions of crate `sqrt` promise to each other.
pub mod Guess
pub mod RootSteps
