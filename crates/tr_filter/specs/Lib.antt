pub mod Ranges
pub mod Moves
pub mod Shifts
pub mod TrShows
pub mod Covers
pub mod inner
pub use Rattle.machine.specs.Law
pub use Rattle.tr_words.specs.Tr
