pub mod AdditionLaws
pub mod ChainLaws
pub mod ChainLists
pub mod ChainParts
pub mod PlaceLaws
pub mod SameLaws
pub mod ShardLaws
