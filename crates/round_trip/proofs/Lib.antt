pub mod TypeLaws
pub mod TripLaws
