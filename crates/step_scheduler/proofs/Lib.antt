pub mod Answered
mod lemmas
