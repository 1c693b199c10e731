pub mod Encoded
pub mod Begun
