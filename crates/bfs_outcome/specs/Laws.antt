-- The statements that are proved of the definitions.
pub mod Replicas
pub mod Tables
pub mod TwoPasses
