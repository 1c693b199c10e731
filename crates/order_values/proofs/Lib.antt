pub mod WordLaws
pub mod NarrowLaws
pub mod EndLaws
pub mod AlongLaws
pub mod ReadLaws
pub mod AlikeLaws
