-- What contracts of private functions cite.
pub mod Counting
pub mod WellFormed
