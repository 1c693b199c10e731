pub mod Below
pub mod Lists
pub mod Reply
pub mod Filled
pub mod Ascending
