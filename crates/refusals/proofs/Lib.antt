pub mod LineLaws
pub mod PassedLaws
pub mod InRange
pub mod TablePassed
pub mod ExactlyLaws
