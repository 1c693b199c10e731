pub mod BitwiseLaws
pub mod Worked
