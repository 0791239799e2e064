-- What the contracts of bfs_node cite.
pub mod Errors
pub mod Nodes
pub mod Receivers
pub mod Resending
pub mod Changing
pub mod Delivering
pub mod Proposing
pub mod Executing
pub mod Checkpoints
pub mod Advancing
pub mod Adopting
pub mod Settling
pub mod Telling
pub mod Offering
pub mod Forgetting
pub mod Saving
pub mod Inside
