-- What the crates above may cite.
pub use Rattle.bfs_tree.proofs.Below.{at_the_end, one_up}
pub use Rattle.bfs_tree.proofs.Laws.{insert_same}
pub use Rattle.bfs_tree.proofs.MapLemmas.{get-map_of, map_of-empty, map_of-inserts}
pub use Rattle.bfs_tree.proofs.SlotLemmas.{home_free, home_insert, home_lent, home_remove, lent_free, lent_insert, lent_lent, lent_remove, no_home_at, no_loan_at, remove_absent}
pub use Rattle.bfs_tree.proofs.WellFormed.Deciding.{children_of, in_parent, root_unnamed, there_at}
pub use Rattle.bfs_tree.proofs.WellFormed.Lists.{all_of_each, each_of_all, named_of_all}
pub use Rattle.bfs_tree.proofs.WellFormed.Loops.{all_further, names_at}
