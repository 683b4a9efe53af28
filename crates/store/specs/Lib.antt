pub mod Places
pub mod Nodes
pub mod Tables
pub mod Stores
pub mod Kept
