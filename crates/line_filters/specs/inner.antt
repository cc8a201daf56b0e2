pub mod FieldPlaces
pub mod LongLines
pub mod Ranges
pub mod Steps
pub mod Stretches
pub mod Walked
