pub mod Exactness
pub mod Lists
pub mod Looks
mod lemmas
