pub mod ArgumentLaws
pub mod OptionSteps
