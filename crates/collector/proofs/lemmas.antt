pub mod Faults
pub mod Items
pub mod Joins
pub mod Offers
pub mod SinkLaws
