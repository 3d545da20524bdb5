-- The definitions of crate `builder`: document 01's builder rule. Below laws their laws: the tree keeps the tree rules, and how many nodes it has.
pub mod Builder
pub mod laws
