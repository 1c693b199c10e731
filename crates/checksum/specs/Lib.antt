pub mod Checksum
pub mod Lanes
