pub mod ComputeLaws
pub mod OwnFiles
