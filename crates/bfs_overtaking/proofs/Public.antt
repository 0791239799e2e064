-- What the crates above may cite.
pub use Rattle.bfs_overtaking.proofs.Beginning.{live_group, planned_footprints}
