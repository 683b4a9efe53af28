pub mod Recording
pub mod Committing
