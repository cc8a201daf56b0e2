pub mod Names
pub mod Sizes
pub mod Ends
pub mod Events
pub mod Pipes
pub mod inner
pub use Rattle.machine.specs.declared.piece.Item
