-- What the crates above may cite.
pub use Rattle.bfs_relay.proofs.Leading.{leader_is_replica}
