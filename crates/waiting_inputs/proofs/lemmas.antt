pub mod Chunks
pub mod Lines
