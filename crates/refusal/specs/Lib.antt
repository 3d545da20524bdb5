-- The definitions of crate `refusal`; below laws their laws.
pub mod Numbers
pub mod Verdicts
pub mod laws
