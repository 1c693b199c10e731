pub mod Layout
pub mod Decoded
