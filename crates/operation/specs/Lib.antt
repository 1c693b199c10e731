pub mod Operation
pub mod Worked
