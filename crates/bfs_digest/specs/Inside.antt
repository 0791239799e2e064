-- What contracts of private functions cite.
pub mod RecordReading
pub mod TextReading
pub mod Taking
pub mod Formation
pub mod Names
pub mod Hashed
pub mod Sharing
