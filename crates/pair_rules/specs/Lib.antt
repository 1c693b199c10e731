pub mod PairRules
