pub mod Machine
pub mod Meeting
pub mod Wanted
pub mod Kept
