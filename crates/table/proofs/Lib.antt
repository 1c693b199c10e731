pub mod EventTests
pub mod SameFields
pub mod MemoryLaws
pub mod ProgramOrderLaws
