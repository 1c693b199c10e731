pub mod Texts
pub mod TextRefusals
pub mod Accepted
pub mod Judged
pub mod WorkedTexts
