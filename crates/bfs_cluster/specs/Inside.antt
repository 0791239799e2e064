-- What contracts of private functions cite.
pub mod Acts
pub mod Aside
pub mod Requests
pub mod Trying
