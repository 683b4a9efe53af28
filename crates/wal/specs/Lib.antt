pub mod Logs
pub mod Tails
