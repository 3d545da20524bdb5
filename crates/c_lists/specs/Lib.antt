-- The definitions of crate `c_lists`: what its function promises to C beyond the entry that it calls. Below laws their laws.
pub mod ListCall
pub mod laws
