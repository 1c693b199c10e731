pub mod State
pub mod Entered
