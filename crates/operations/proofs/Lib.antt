pub mod Careful
pub mod Picks
pub mod ByKind
pub mod Each
