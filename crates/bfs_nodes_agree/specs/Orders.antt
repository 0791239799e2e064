-- Replicas by the calls of their orders.
pub mod Replicas
pub mod Following
pub mod Performing
pub mod Laws
