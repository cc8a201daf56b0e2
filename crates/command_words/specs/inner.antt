pub mod Refusals
pub mod OptionReads
pub mod NumberSteps
