pub mod Awaits
pub mod Counts
pub mod Decisions
pub mod Finds
