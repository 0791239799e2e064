-- What the crates above may cite.
pub use Rattle.bfs_replies.proofs.Exact.{tables_again, tables_written}
pub use Rattle.bfs_replies.proofs.Recording.{new_is_known, recorded_append, timestamps_recorded}
