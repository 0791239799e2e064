-- Lemmas of bfs_types.
pub mod Padding
