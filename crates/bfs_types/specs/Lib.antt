-- What the contracts of bfs_types and of the crates above it cite of its types.
pub mod Attributes
pub mod Procedures
pub mod Gids
