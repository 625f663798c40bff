pub mod Shards
pub mod Asked
pub mod References
pub mod Demand
