-- The laws of the definitions of crate `shapes`.
pub mod MultiBoxLaws
pub mod PolylineLaws
pub mod GeneralRows
