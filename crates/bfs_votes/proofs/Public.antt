-- What the crates above may cite.
pub use Rattle.bfs_votes.proofs.Below.{none_below, same_below, same_count, more_below, more, either_below, once_below}
