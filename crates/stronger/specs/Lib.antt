pub mod Stronger
pub mod Statements
pub mod Worked
