pub mod Outcomes
pub mod Listings
pub mod Worked
