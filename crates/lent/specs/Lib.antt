-- The definitions of crate `lent`; below laws their laws.
pub mod Over
pub mod Every
pub mod Floats
pub mod Reordered
pub mod laws
