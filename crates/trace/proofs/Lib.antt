pub mod Lengths
pub mod Next
pub mod Meeting
pub mod Feeding
pub mod Saying
