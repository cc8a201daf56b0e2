pub mod Cuts
pub mod FrontLaws
pub mod InOrderLaws
pub mod Inputs
pub mod LinesLaws
pub mod MakesLaws
pub mod OneInputLaws
pub mod PlaceLaws
pub mod PrefixLaws
pub mod SplitLaws
mod lemmas
