pub mod LentEnds
pub mod Copies
pub mod Parts
pub mod Joins
