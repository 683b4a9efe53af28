pub mod Register
pub mod Shifts
