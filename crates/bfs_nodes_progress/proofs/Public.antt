-- Lemmas that other crates cite.
pub use Rattle.bfs_nodes_progress.proofs.Asked.{left_asks}
pub use Rattle.bfs_nodes_progress.proofs.Begun.{views_are_begun}
pub use Rattle.bfs_nodes_progress.proofs.CatchingUp.{installs, snapshots_are_of_states}
pub use Rattle.bfs_nodes_progress.proofs.Each.{AreOf, authentic_both, each_once}
pub use Rattle.bfs_nodes_progress.proofs.Executing.{after_so_many, proposed_in}
pub use Rattle.bfs_nodes_progress.proofs.Hears.{entered_asked}
pub use Rattle.bfs_nodes_progress.proofs.Prompt.{asks_entered, entered_view}
pub use Rattle.bfs_nodes_progress.proofs.Quiet.{low_there, min_s_there, same_f, same_me, view_there}
pub use Rattle.bfs_nodes_progress.proofs.Reached.{Facts, Leads, always, responds, start_facts, step_on, told_here, told_world}
pub use Rattle.bfs_nodes_progress.proofs.Requests.{requests_are_executed}
pub use Rattle.bfs_nodes_progress.proofs.Resending.{votes_are_resent}
pub use Rattle.bfs_nodes_progress.proofs.Resting.{Rests, executes_rests, offered_rests, proposes_rests, requests_rest}
pub use Rattle.bfs_nodes_progress.proofs.Rounds.{after_join, own_found, rounds_commit}
pub use Rattle.bfs_nodes_progress.proofs.Snapshots.{HasStates, TellsAState, all_states, start_states}
pub use Rattle.bfs_nodes_progress.proofs.Taking.{brings_order}
pub use Rattle.bfs_nodes_progress.proofs.Together.{changes_are_given, new_views_are_given}
