pub mod TestLaws
pub mod WindowLaws
pub mod WalkLaws
pub mod Worked
