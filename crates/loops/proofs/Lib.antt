pub mod Loops
pub mod Places
pub mod Positions
pub mod Prefixes
