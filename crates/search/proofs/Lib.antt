pub mod CallLaws
pub mod PrunedLaws
