pub mod Input
pub mod Lines
pub mod Rows
pub mod Texts
