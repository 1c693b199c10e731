pub mod States
pub mod Choices
pub mod Completions
pub mod Decisions
pub mod Worked
