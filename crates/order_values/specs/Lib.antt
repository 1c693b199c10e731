pub mod Following
pub mod ByFacts
