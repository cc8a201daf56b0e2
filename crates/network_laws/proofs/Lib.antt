pub mod AlikeLaws
pub mod AnswerLaws
pub mod BoundLaws
pub mod CircleLaws
pub mod FinishLaws
pub mod StepLaws
pub mod StuckLaws
mod lemmas
