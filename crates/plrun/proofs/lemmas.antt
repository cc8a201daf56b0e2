pub mod EndLaws
pub mod CommandLaws
pub mod WordLaws
pub mod ReportLaws
pub mod LookLaws
