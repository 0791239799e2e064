-- What the crates above may cite.
pub use Rattle.bfs_steps.proofs.Bodies.{bodies_read}
