pub mod Chosen
pub mod Replies
