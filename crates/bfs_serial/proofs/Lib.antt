pub mod Bytes
pub mod Whole
pub mod Public
