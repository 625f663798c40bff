pub mod Local
pub mod Made
pub mod Tokens
