-- The laws of the definitions of crate `tree`.
pub mod TreeTestLaws
pub mod TreeTheorem
pub mod NumberLaws
pub mod JoinLaws
pub mod Once
pub mod CountingLaws
