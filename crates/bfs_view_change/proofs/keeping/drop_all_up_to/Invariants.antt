use Rattle.std.proofs.Common.{◌≡◌, ◌++◌, map, take, drop}
use Rattle.bfs_view_change.specs.Changes.Keeping.{if_above}
use Rattle.bfs_view_change.proofs.keeping.drop_all_up_to.Given as goal

-- those so far are dropped where they are to be
abbrev pub invariant-loop-place : goal.invariant-loop-place
invariant-loop-place l = l.changes.items ≡ map (if_above l.view) (take l.place l.fn.changes.items) ++ drop l.place l.fn.changes.items
