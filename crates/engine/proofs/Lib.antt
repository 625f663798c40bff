pub mod Promises
pub mod Taken
pub mod Tells
pub mod Demand
