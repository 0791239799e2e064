-- How messages are read, and what ties that to their texts.
pub mod Parts
pub mod ChangeReading
pub mod Reading
pub mod Codes
pub mod Laws
