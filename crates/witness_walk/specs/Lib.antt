pub mod Ending
pub mod Running
