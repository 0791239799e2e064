-- What the contracts of bfs_votes and of the crates above it cite.
pub mod Tags
pub mod Votes
pub mod Laws
