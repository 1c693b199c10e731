pub mod MemoLaws
pub mod TryLaws
pub mod LeadLaws
pub mod ReplyLaws
