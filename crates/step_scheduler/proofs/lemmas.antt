pub mod FitLaws
pub mod FollowLaws
pub mod Informed
pub mod Lowest
pub mod Numbered
