pub mod CleanLaws
pub mod KeptLaws
