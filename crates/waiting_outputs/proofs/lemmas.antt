pub mod Pieces
pub mod Grown
pub mod Settles
