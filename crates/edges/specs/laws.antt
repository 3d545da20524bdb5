-- The laws of the definitions of crate `edges`.
pub mod EdgeLaws
pub mod PairLaws
pub mod ClosedLaws
