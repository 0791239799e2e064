-- What the crates above may cite.
pub use Rattle.bfs_workers.proofs.Numbers.{each_number_once}
pub use Rattle.bfs_workers.proofs.Ones.{can_run_one, one_there}
