-- The definitions of crate `text`; below steps what its inner functions promise, below laws their laws.
pub mod Lines
pub mod Fields
pub mod Listing
pub mod steps
pub mod laws
