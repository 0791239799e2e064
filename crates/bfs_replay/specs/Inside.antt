-- What contracts of private functions cite.
pub mod Results
pub mod Settling
pub mod Stopping
