pub mod Looks
pub mod Process
pub mod Words
pub mod inner
pub use Rattle.collector.specs.Files
