pub mod Precedence
pub mod Passed
