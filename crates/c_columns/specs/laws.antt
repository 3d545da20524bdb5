-- The laws of the definitions of crate `c_columns`.
pub mod ReadBack
