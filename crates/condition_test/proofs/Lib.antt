pub mod MachineLaws
pub mod AtomLaws
pub mod RunLaws
pub mod WantedLaws
