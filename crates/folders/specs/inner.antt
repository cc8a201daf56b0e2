pub mod Calls
pub mod Folder
pub mod Outputs
pub mod Fronts
pub mod Causes
pub mod Memory
pub mod MemoryMoments
pub mod MemoryReal
