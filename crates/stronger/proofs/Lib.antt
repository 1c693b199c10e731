pub mod ImpliesLaws
pub mod SameLaws
pub mod GrowthLaws
pub mod RelationLaws
pub mod StrongerLaws
pub mod WorkedPairs
