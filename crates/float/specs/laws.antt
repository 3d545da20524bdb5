-- The laws of the definitions of crate `float`.
pub mod NumberTests
pub mod Order
pub mod Patterns
pub mod OrderTheorems
