pub mod Actors
pub mod LentEnds
pub mod MadeNodes
