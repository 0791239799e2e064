-- What contracts of private functions cite.
pub mod Places
pub mod Reading
pub mod Writing
