-- The laws of the definitions of crate `c_meshes`.
pub mod ReadBack
