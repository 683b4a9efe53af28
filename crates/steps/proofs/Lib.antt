pub mod FileNames
pub mod Room
pub mod Found
pub mod Arms
pub mod Faults
pub mod Applying
pub mod Running
pub mod Joined
