pub mod TableLaws
mod lemmas
