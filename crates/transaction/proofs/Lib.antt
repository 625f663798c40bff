pub mod Slots
pub mod Same
pub mod Causes
pub mod Long
pub mod Tables
pub mod Walks
