pub mod Asking
pub mod Buffers
pub mod Outcomes
pub mod Laws
