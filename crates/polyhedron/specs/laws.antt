-- The laws of the definitions of crate `polyhedron`.
pub mod ListLaws
pub mod ReorderedNumbers
pub mod RewrittenParts
pub mod RewrittenAccepted
pub mod RewrittenScan
pub mod Demand3Theorem
pub mod Worked
pub mod VoteLaws
