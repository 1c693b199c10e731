pub mod Bytes
pub mod Condition
pub mod Document
pub mod Reading
pub mod Theorems
pub mod Worked
