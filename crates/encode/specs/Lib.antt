pub mod Logs
pub mod Sizes
pub mod Encoding
