pub mod ListedLaws
pub mod AnswerLaws
pub mod WalkLaws
pub mod NextLaws
pub mod AlikeLaws
