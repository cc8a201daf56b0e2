pub mod BranchLaws
pub mod DeterminacyLaws
pub mod StartLaws
pub mod TakeLaws
pub mod WireLaws
pub mod WorkedLaws
