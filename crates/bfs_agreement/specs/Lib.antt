-- What the contracts of bfs_agreement and of the crates above it cite.
pub mod Histories
pub mod Moves
pub mod Choice
pub mod Calls
pub mod Nodes
pub mod Laws
pub mod Examples
