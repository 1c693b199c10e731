pub mod SuiteLaws
pub mod HeldLaws
