pub mod SettledLaws
pub mod SpoiledLaws
pub mod UnprunedLaws
pub mod SecondLaws
