-- Lemmas of bfs_deployment.
pub mod Documents
pub mod Given
pub mod Rows
