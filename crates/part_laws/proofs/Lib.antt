pub mod PartLaws
mod lemmas
