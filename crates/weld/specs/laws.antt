-- The laws of the definitions of crate `weld`.
pub mod WrittenLists
pub mod Finding
pub mod Passed
pub mod WeldAccepted
pub mod SameLaws
