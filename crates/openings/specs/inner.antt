pub mod Failures
pub mod LeftParts
pub mod Needs
pub mod Tables
