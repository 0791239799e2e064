-- What the crates above may cite.
pub use Rattle.bfs_order.proofs.Raising.{raised_either, raised_same}
pub use Rattle.bfs_order.proofs.Entering.{entered_low}
