pub mod Steps
pub mod CodeRuns
