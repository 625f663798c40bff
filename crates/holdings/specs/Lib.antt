pub mod Held
pub mod Inputs
