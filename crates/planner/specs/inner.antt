pub mod Reads
pub mod Groups
pub mod Ordered
