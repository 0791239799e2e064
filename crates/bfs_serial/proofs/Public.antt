-- What the crates above may cite.
pub use Rattle.bfs_serial.proofs.Whole.{knows_all_touched}
