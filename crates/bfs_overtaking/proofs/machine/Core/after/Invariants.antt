use Rattle.std.proofs.Common.{drop, length}
use Rattle.bfs_tree.specs.Tree.{at_home}
use Rattle.bfs_overtaking.specs.Machine.{played}
use Rattle.bfs_overtaking.specs.Seen.{start_of}
use Rattle.bfs_overtaking.proofs.Playing.{Leads}
use Rattle.bfs_overtaking.proofs.machine.Core.after.Given as goal

abbrev pub invariant-loop-event : goal.invariant-loop-event
invariant-loop-event l =
    Leads l.core (drop l.event-index l.events)
    (played l.fn.events (start_of l.fn.part (length l.fn.footprints.items) (at_home l.fn.tree)))
