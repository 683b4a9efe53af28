pub mod Line
pub mod Tracking
pub mod Split
pub mod Cases
