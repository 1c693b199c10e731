pub mod Tests
pub mod Statements
pub mod Worked
