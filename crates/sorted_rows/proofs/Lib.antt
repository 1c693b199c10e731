pub mod SortedLaws
pub mod RowsLaws
pub mod CompareLaws
pub mod PlaceLaws
pub mod PutLaws
pub mod InsertLaws
