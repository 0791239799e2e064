-- What the crates above may cite.
pub use Rattle.bfs_saving.proofs.Loops.{all_taken}
pub use Rattle.bfs_saving.proofs.Stable.{kept_is}
