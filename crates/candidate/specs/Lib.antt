pub mod CandidateLines
pub mod Buffers
