-- The laws of the definitions of crate `mesh`.
pub mod AxisLaws
pub mod Fans
pub mod TriangleLaws
pub mod MeshBoxLaws
pub mod MeshLaws
pub mod Places
pub mod Centers
pub mod CornerLaws
pub mod ItemLaws
pub mod PermutedBoxes
pub mod Rewriting
pub mod WorkLaws
