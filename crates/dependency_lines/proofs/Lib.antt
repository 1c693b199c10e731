pub mod DependencyLaws
pub mod PassingLaws
