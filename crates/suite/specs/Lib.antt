pub mod SuiteLine
pub mod Held
