-- Lemmas that other crates cite.
pub use Rattle.bfs_liveness.proofs.Kept.{same_f, same_keys}
pub use Rattle.bfs_liveness.proofs.Ways.{runs_on}
