pub mod WeightLaws
pub mod LaneLaws
