pub mod Lines
pub mod Parts
pub mod Listing
pub mod Buffers
pub mod Play
