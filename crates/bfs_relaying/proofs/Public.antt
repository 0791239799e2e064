-- What the crates above may cite.
pub use Rattle.bfs_relaying.proofs.Rising.{told_of}
