pub mod MachineLaws
pub mod RunLaws
pub mod Tries
pub mod Endings
pub mod Budget
pub mod ModelAnswers
