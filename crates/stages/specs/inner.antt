pub mod LentEnds
pub mod Moves
pub mod Staged
pub mod Steps
