pub mod Decision
pub mod Numbers
pub mod Made
