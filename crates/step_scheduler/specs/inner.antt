pub mod Follows
pub mod Nodes
