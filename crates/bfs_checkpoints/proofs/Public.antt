-- What the crates above may cite.
pub use Rattle.bfs_checkpoints.proofs.Certifying.{certificate_of}
pub use Rattle.bfs_checkpoints.proofs.Stable.{popped}
