pub mod RoundCounts
pub mod LoopLaws
pub mod Phases
