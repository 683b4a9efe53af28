pub mod Operations
pub mod Rows
