pub mod Rates
pub mod Tallies
