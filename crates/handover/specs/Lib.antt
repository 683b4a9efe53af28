pub mod Contract
pub mod Handing
pub mod Opening
