pub mod Keeping
pub mod Exact
pub mod Recording
pub mod Public
