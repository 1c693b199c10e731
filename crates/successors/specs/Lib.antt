pub mod CleanMasks
pub mod Waiting
