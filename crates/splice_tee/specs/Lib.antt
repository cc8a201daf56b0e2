pub mod BranchStates
pub mod CatShows
pub mod inner
pub use Rattle.bounded_pipe.specs.Ends
pub use Rattle.machine.specs.Law
pub use Rattle.machine.specs.Whole
