pub mod SizeLaws
pub mod Records
mod ViewLaws
mod Tallies
