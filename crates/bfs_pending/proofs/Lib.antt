mod Alike
mod Counts
mod Lasts
pub mod Asked
