pub mod Bit
pub mod MaskOf
pub mod Parts
pub mod Ones
