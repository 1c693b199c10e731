pub mod AsBlock
pub mod Used
