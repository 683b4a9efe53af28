pub mod Shapes
pub mod Counting
pub mod Placing
pub mod Tails
pub mod Image
pub mod Hits
