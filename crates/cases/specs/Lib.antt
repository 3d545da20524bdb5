-- The definitions of crate `cases`: the table of document 01's starred cases. That every row holds is proofs/TableTheorem.antt.
pub mod Table
