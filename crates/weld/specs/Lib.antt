-- The definitions of crate `weld`; below steps what its inner functions promise, below laws their laws.
pub mod Welding
pub mod WeldQuestions
pub mod steps
pub mod laws
