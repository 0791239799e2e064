pub mod Counting
pub mod Rising
pub mod Leaving
pub mod Public
