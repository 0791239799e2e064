pub mod Clients
pub mod Passing
pub mod Replicas
mod Rows
pub mod Telling
