-- What the contracts of bfs_wire and of the crates above it cite of its types.
pub mod Calls
pub mod Replies
