pub mod StateLaws
pub mod LoadLaws
pub mod EngineLaws
pub mod EnteredLaws
pub mod StepLaws
