pub mod Lines
pub mod Exactly
pub mod TableLines
pub mod Refusals
