pub mod Calls
pub mod Layout
