pub mod ElementLaws
pub mod ExpansionLaws
pub mod StringProofs
