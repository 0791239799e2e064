use Rattle.std.proofs.Common.{◌≡◌, ◌++◌}
use Rattle.std.specs.FinMap.{entries}
use Rattle.bfs_tree.specs.Tree.{at_home}
use Rattle.bfs_digest.specs.Text.{records_text}
use Rattle.bfs_xdr.specs.Sinks.{BeginsWith}
use Rattle.bfs_digest.proofs.writers.put_records.Given as goal

abbrev pub invariant-loop-id : goal.invariant-loop-id
invariant-loop-id l = BeginsWith l.fn.out.items l.out.items × (l.out.items ++ records_text l.id-iterator ≡ l.fn.out.items ++ records_text (entries (at_home l.tree)))
