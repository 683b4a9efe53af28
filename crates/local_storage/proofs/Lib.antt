pub mod Opened
pub mod Outcomes
pub mod Givens
pub mod Ends
pub mod Stagings
pub mod Renamed
pub mod Finished
