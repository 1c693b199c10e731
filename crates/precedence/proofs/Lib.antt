pub mod PassedLaws
pub mod RowLaws
pub mod PrecedenceLaws
