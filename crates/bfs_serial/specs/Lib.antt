pub mod Codes
pub mod Errors
pub mod Executed
pub mod Parts
