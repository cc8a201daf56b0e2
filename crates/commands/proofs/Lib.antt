pub mod AnyLaws
pub mod CountedWords
pub mod Dashes
pub mod InputCounts
mod lemmas
