pub mod inner
pub use Rattle.collector.specs.Files
