-- The laws of the definitions of crate `walks`.
pub mod WalkLaws
pub mod WalkTheorem
pub mod ReadyLaws
pub mod WalkScan
pub mod StackLaws
pub mod StartLaws
pub mod PlaneLaws
pub mod CastLaws
pub mod LeafLaws
