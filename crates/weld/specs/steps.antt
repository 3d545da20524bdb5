-- What the inner functions of crate `weld` promise to each other.
pub mod WeldSteps
