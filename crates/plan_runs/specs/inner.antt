pub mod Places
pub mod Settled
