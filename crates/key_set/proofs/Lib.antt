pub mod Alike
pub mod Walks
pub mod Entry
pub mod Gathers
pub mod Gatherings
pub mod Deletes
pub mod Filled
pub mod Whole
