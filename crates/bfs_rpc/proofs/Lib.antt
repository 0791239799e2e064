-- Lemmas of bfs_rpc.
pub mod Words
