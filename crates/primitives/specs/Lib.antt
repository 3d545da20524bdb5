-- The definitions of crate `primitives`.
pub mod ShapeQuestions
