pub mod Listed
pub mod Answer
pub mod Walk
pub mod Statements
