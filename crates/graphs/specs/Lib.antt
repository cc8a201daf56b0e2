pub mod Branches
pub mod Graph
pub mod NamesByPlace
pub mod Orders
pub mod Uses
pub mod inner
