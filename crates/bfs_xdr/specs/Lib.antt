-- What the contracts of bfs_xdr and of the crates above it cite.
pub mod Faults
pub mod Reading
pub mod Sinks
