-- What the contracts of bfs_order and of the crates above it cite.
pub mod Replica
pub mod Inside
pub mod Laws
