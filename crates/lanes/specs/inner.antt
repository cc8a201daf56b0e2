pub mod Doubles
pub mod Masks
pub mod Gathers
pub mod Prefixes
pub mod Walks
