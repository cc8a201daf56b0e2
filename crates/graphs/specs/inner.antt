pub mod Circles
pub mod Meetings
pub mod Rows
pub mod StripSteps
