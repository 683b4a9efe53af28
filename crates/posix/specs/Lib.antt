pub mod Posix
pub mod Disk
pub mod Cases
