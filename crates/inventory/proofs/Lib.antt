pub mod Parts
pub mod Names
pub mod Walks
pub mod Bridge
