pub mod Apart
pub mod Bodies
pub mod Opened
pub mod Plans
pub mod Sized
mod lemmas
