pub mod Logs
pub mod TouchLaws
pub mod Looks
pub mod Results
mod lemmas
