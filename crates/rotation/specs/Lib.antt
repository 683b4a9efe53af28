pub mod Asking
pub mod Copies
pub mod Recorded
pub mod Rotation
pub mod Rule
pub mod Refusals
