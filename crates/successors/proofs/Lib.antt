pub mod SiftLaws
pub mod WaitLaws
