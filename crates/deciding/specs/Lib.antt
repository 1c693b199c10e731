pub mod Replies
pub mod Memo
pub mod Deciding
