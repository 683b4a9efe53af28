pub mod Lowered
pub mod Listed
pub mod Renamed
