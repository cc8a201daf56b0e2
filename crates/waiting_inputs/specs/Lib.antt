pub mod Inputs
pub mod inner
