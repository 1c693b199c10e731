pub mod AtomicityLaws
pub mod LowestLaws
