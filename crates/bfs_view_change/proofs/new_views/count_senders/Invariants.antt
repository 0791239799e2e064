use Rattle.std.proofs.Common.{◌≡◌, ◌≤◌}
use Rattle.bfs_votes.specs.Votes.{count_below}
use Rattle.bfs_view_change.specs.Changes.NewViews.{is_any_from}
use Rattle.bfs_view_change.proofs.new_views.count_senders.Given as goal

abbrev pub invariant-loop-replica : goal.invariant-loop-replica
invariant-loop-replica l = (l.count ≡ count_below (is_any_from l.changes) l.replica) × (l.count ≤ l.replica)
