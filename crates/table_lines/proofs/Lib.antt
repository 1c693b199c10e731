pub mod MarkedLaws
pub mod UsedLaws
pub mod AsBlockLaws
