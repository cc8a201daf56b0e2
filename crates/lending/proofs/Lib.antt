pub mod FillLaws
pub mod GoingOn
pub mod KeptNodes
pub mod PhaseLaws
pub mod ProgressLaws
pub mod SeparateLaws
pub mod StepLaws
mod lemmas
