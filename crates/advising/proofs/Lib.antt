pub mod FactLaws
pub mod EventLaws
pub mod MaskLaws
pub mod TryLaws
pub mod ChosenLaws
pub mod TurnLaws
pub mod SaidLaws
pub mod ReplyLaws
