mod Below
mod Counts
pub mod Public
