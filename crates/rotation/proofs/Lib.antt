pub mod Rotating
pub mod Having
pub mod Done
