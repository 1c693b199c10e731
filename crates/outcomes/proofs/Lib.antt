pub mod OutcomeLaws
pub mod ListingLaws
pub mod WorkedCases
