pub mod Around
pub mod FactRows
pub mod ValueRows
