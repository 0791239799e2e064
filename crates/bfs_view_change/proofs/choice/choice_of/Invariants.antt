use Rattle.std.proofs.Common.{◌≡◌, ◌+◌, ◌-◌, map}
use Rattle.std.specs.List.{range_with_len}
use Rattle.bfs_view_change.specs.Changes.Choice.{chosen_for}
use Rattle.bfs_view_change.specs.Changes.ViewChanges.{messages_of}
use Rattle.bfs_view_change.proofs.choice.choice_of.Given as goal

abbrev pub invariant-loop-number : goal.invariant-loop-number
invariant-loop-number l = l.chosen.items ≡ map (chosen_for (messages_of l.changes)) (range_with_len (l.min_s + 1) (l.number - (l.min_s + 1)))
