pub mod Touches
pub mod Apart
