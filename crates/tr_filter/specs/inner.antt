pub mod Progress
pub mod FewSpans
pub mod Nibbles
