pub mod SetsLaws
pub mod FenceLaws
pub mod AdviceLaws
pub mod WorkedAdvice
