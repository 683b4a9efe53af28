pub mod Parts
pub mod Eights
pub mod Walk
pub mod Backups
pub mod Prefix
pub mod Sounds
pub mod Written
pub mod Chains
