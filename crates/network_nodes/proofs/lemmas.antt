pub mod FillLaws
pub mod SplitLaws
