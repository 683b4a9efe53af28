pub mod Answers
pub mod Inventory
pub mod Rotate
pub mod Cases
