pub mod Sorted
pub mod Places
