-- Lemmas that other crates cite.
pub use Rattle.bfs_service.proofs.Processes.{turned_keeps}
pub use Rattle.bfs_service.proofs.Tracking.{either}
