-- The laws of the definitions of crate `c_lists`.
pub mod ReadBack
