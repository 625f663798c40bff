pub mod Codes
pub mod Fields
pub mod Taking
pub mod Writing
pub mod Calls
pub mod Queries
pub mod Asks
