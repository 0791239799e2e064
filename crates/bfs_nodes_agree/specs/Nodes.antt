-- Whole replicas, by the calls of their nodes and deliveries of bytes.
pub mod Steps
pub mod Replicas
pub mod Premises
pub mod Performing
pub mod Laws
pub mod Answers
pub mod Resending
