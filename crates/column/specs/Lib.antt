-- The definitions of crate `column`; below steps what its inner functions promise, below laws their laws.
pub mod Numbers
pub mod Column
pub mod steps
pub mod laws
