pub mod Disk
pub mod Holding
