pub mod Shapes
pub mod Counting
pub mod Placing
pub mod Answered
