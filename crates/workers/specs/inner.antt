pub mod Begun
pub mod Phases
pub mod Runs
