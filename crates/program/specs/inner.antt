pub mod Circles
pub mod Texts
