pub mod NumberLaws
pub mod WordLaws
pub mod AtomLaws
pub mod OpeningLaws
pub mod JointLaws
pub mod ConditionLaws
