pub mod CircleLaws
pub mod ReadLaws
pub mod RunLaws
pub mod PlacingLaws
pub mod ReportLaws
pub mod ShowLaws
