pub mod Machine
pub mod Statements
pub mod Worked
