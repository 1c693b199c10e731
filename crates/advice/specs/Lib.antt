pub mod Sets
pub mod Advice
pub mod Statements
pub mod Worked
