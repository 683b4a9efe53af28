pub mod Arms
pub mod Checks
pub mod Decode
pub mod Encode
pub mod Lists
pub mod Payloads
pub mod Same
pub mod Table
