-- Which requests are executed, by whom, and in which parts and levels.
pub mod Ran
pub mod Levels
pub mod Parts
