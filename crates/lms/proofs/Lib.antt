mod Parts
mod DigitSums
pub mod Steps
pub mod Nested
pub mod Upper
mod Kept
pub mod Paths
pub mod Standing
pub mod Signed
mod Ways
pub mod SignedLevels
pub mod Public
