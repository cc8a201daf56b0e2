pub mod Chains
pub mod Shards
pub mod inner
