pub mod AlongLaws
pub mod ReaderLaws
pub mod LocationLaws
pub mod OutcomeLaws
