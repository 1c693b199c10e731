pub mod PlaceLaws
pub mod FitLaws
pub mod PartLaws
pub mod OutcomeLaws
pub mod DecisionLaws
