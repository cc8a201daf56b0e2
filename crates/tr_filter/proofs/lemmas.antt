pub mod TrFeed
pub mod TrLaws
pub mod PressLaws
pub mod ThinLaws
pub mod LaneLaws
pub mod FewLaws
