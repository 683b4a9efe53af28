pub mod Namings
pub mod Parts
pub mod Applying
