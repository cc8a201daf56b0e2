pub mod FaultLaws
pub mod SettleLaws
pub mod TakeLaws
pub mod TurnLaws
pub mod ViewLaws
