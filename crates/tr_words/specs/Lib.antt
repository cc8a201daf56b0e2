pub mod Classes
pub mod Strings
pub mod Expansions
pub mod Tables
pub mod TrWords
pub mod Tr
pub mod StringLaws
