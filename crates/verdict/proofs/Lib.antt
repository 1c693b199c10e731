pub mod PairLaws
pub mod JudgeLaws
