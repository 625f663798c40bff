pub mod Regions
pub mod Slots
pub mod Stored
pub mod Ledgers
