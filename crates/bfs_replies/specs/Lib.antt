-- Definitions of reply tables.
pub mod Answers
pub mod Classes
pub mod Errors
pub mod Tables
pub mod Texts
pub mod TextReading
pub mod Parsing
