pub mod OutcomeLaws
pub mod CoverLaws
pub mod UnknownLaws
pub mod NamedLaws
pub mod JudgeLaws
pub mod TableLaws
pub mod TextLaws
pub mod WorkedCases
