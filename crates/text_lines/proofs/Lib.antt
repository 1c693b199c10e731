pub mod ReadLaws
pub mod FieldLaws
pub mod RowLaws
