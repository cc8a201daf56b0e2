pub mod Acted
pub mod ActLaws
pub mod BoundLaws
pub mod DecisionLaws
pub mod EndLaws
pub mod FailureLaws
pub mod FaultLaws
pub mod Grown
pub mod Kept
pub mod LoopLaws
pub mod Progress
pub mod Same
pub mod ScheduleLaws
pub mod SightLaws
pub mod StateLaws
pub mod StayLaws
mod lemmas
pub mod Touched
