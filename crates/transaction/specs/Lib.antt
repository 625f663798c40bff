pub mod Refusals
pub mod Lists
pub mod Tokens
pub mod Checks
