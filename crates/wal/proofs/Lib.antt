pub mod Checksums
pub mod Headers
pub mod Heads
pub mod Appended
pub mod Walks
