pub mod ShortSteps
pub mod TableSteps
