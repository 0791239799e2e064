-- What the contracts of bfs_rpc and of the crates above it cite of its types.
pub mod Calls
