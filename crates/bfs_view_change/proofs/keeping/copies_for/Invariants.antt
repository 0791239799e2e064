use Rattle.std.proofs.Common.{◌≡◌, take}
use Rattle.std.specs.List.{filter_map}
use Rattle.bfs_view_change.specs.Changes.Keeping.{if_for}
use Rattle.bfs_view_change.proofs.keeping.copies_for.Given as goal

abbrev pub invariant-loop-one : goal.invariant-loop-one
invariant-loop-one l = l.changes.items ≡ filter_map (if_for l.view) (take l.one-index l.kept)
