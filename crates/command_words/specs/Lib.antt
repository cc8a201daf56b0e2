pub mod Bytes
pub mod Texts
pub mod Options
pub mod Letters
pub mod Numbers
pub mod Streams
pub mod Arguments
pub mod inner
