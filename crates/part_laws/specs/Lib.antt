pub mod Additions
pub mod Divisions
pub mod Laws
pub mod Manners
pub mod Parts
pub mod Utilities
