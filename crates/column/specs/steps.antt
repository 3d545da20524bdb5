-- What the inner functions of crate `column` promise to each other.
pub mod Sections
pub mod Answers
pub mod Whole
