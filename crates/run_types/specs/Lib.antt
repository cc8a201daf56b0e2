pub mod Limits
pub mod Destinations
pub mod Placings
pub mod Steps
