pub mod AnswerLaws
pub mod Fronts
mod lemmas
