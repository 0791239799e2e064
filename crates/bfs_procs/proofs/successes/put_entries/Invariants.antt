-- What is put and what is left of the page are all of it.
use Rattle.std.proofs.Common.{◌≡◌, ◌++◌, length}
use Rattle.std.specs.List.{flat_map}
use Rattle.bfs_model.specs.Bytes.Replies.{entry_item}
use Rattle.bfs_procs.proofs.successes.put_entries.Given as goal

abbrev pub invariant-loop-listed : goal.invariant-loop-listed
invariant-loop-listed l = (l.out.items ++ flat_map entry_item l.page.listed ≡ l.fn.out.items ++ flat_map entry_item l.fn.page.listed) × (l.page.all ≡ l.fn.page.all)

abbrev pub decreases-loop-listed : goal.decreases-loop-listed
decreases-loop-listed l = length l.page.listed
