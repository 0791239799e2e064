-- Lemmas of bfs_settings.
pub mod Documents
pub mod Rows
pub mod SigningRows
