mod lemmas
pub mod Alone
pub mod Lists
pub mod Moments
