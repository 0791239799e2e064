pub mod Folding
pub mod Written
