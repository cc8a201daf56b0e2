pub mod EndLaws
mod lemmas
