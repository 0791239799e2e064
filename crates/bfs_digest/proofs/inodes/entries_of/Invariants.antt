use Rattle.std.proofs.Common.{◌-◌}
use Rattle.bfs_model.specs.Server.Tree.{first_ordinal}
use Rattle.bfs_digest.specs.Inside.RecordReading.{entries_from}
use Rattle.bfs_digest.proofs.Building.{AreLeft}
use Rattle.bfs_digest.proofs.inodes.entries_of.Given as goal

abbrev pub invariant-loop-entry : goal.invariant-loop-entry
invariant-loop-entry l = AreLeft entries_from (λ entry. entry.cookie) (entries_from l.count first_ordinal l.fn.reader) (l.count - l._entry) l.reader l.entries.items
