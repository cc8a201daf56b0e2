pub mod JoinLaws
pub mod OrderLaws
pub mod UseLaws
mod lemmas
