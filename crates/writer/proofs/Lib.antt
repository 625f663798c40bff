pub mod Stores
pub mod Writes
