pub mod Gathering
pub mod Deleting
