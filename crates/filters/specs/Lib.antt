pub mod FilterShows
pub use Rattle.commands.specs.Filters
pub use Rattle.machine.specs.Law
