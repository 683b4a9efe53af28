pub mod Reading
pub mod Listing
pub mod Spots
pub mod Decoding
