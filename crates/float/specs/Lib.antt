-- The definitions of crate `float`; below steps what its inner functions promise, below laws their laws, the order of floats among them.
pub mod Rules
pub mod Arithmetic
pub mod Quanta
pub mod TotalOrder
pub mod steps
pub mod laws
