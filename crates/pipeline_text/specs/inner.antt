pub mod Scans
pub mod Left
pub mod Peeks
pub mod Lexemes
pub mod Additions
pub mod Takes
pub mod FifoNames
pub mod Parses
