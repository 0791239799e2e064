-- What is listed and what is left of the page are all of it.
use Rattle.std.proofs.Common.{◌≡◌, ◌++◌, length}
use Rattle.bfs_procs.proofs.names.list.Given as goal

abbrev pub invariant-loop-listed : goal.invariant-loop-listed
invariant-loop-listed l = (l.entries ++ l.page.listed ≡ l.fn.page.listed) × (l.page.all ≡ l.fn.page.all)

abbrev pub decreases-loop-listed : goal.decreases-loop-listed
decreases-loop-listed l = length l.page.listed
