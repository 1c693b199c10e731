pub mod TellLaws
pub mod PassLaws
pub mod EndLaws
