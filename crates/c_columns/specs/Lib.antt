-- The definitions of crate `c_columns`: what its function promises to C beyond the entry that it calls. Below laws their laws.
pub mod ColumnCall
pub mod laws
