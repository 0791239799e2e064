-- What the crates above may cite.
pub use Rattle.bfs_levels.proofs.Heights.{any_none, any_or, conflict_by_ids, or_middle}
pub use Rattle.bfs_levels.proofs.InTurn.{fresh_seen, servable_there}
pub use Rattle.bfs_levels.proofs.Longest.{groups_are_cut, joined_cut, joined_just_if, runs_are_longest}
pub use Rattle.bfs_levels.proofs.Rising.{levels_rise}
