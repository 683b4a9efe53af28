pub mod Putting
pub mod Walk
