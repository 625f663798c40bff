pub mod Once
pub mod Ledgers
pub mod Calls
pub mod Tables
pub mod Asked
pub mod Freed
pub mod Reports
