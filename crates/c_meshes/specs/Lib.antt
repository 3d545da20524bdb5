-- The definitions of crate `c_meshes`: what its functions promise to C beyond the entries that they call. Below laws their laws.
pub mod WeldCall
pub mod TreeCalls
pub mod laws
