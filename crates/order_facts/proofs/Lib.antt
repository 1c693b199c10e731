pub mod ReadLaws
pub mod WriteLaws
pub mod GoodLaws
pub mod FinalLaws
pub mod RowLaws
pub mod WindowRowLaws
pub mod PairRowLaws
