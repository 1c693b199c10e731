pub mod Guards
pub mod GoodTable
pub mod ReturnedRules
pub mod Entries
