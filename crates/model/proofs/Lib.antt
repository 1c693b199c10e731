pub mod WorkedCases
pub mod PrefixLaws
pub mod SaysLaws
pub mod VerdictLaws
