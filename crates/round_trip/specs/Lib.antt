pub mod Trips
pub mod Slots
