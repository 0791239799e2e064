-- Those so far may be merged where all may.
use Rattle.bfs_tree.specs.Slots.{Slots}
use Rattle.bfs_handover.specs.Merging.{AreOut}
use Rattle.tests_jobs.proofs.merges.altered.Given as goal

abbrev pub invariant-loop-last : goal.invariant-loop-last
invariant-loop-last l = (tree : Slots) → AreOut tree l.fn.dones.items → AreOut tree l.dones.items

abbrev pub invariant-loop-number : goal.invariant-loop-number
invariant-loop-number l = (tree : Slots) → AreOut tree l.fn.dones.items → AreOut tree l.dones.items
