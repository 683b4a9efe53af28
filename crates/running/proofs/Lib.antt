pub mod Plans
pub mod Handed
