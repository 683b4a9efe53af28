pub mod Order
pub mod Same
pub mod Prefix
pub mod Checks
pub mod Lower
pub mod Eights
