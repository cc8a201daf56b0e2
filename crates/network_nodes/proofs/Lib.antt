pub mod ShareLaws
mod lemmas
