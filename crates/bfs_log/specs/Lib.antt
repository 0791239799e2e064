-- What the contracts of bfs_log and of the crates above it cite.
pub mod Batches
pub mod Certificates
pub mod Headers
pub mod Latest
pub mod Logs
pub mod Places
pub mod Rows
pub mod Showing
