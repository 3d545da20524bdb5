-- The laws of the definitions of crate `mesh_questions`.
pub mod FaceLaws
pub mod QuestionLaws
pub mod AcceptedLaws
