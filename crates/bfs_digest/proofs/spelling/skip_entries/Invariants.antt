use Rattle.std.proofs.Common.{◌≡◌, ◌-◌}
use Rattle.bfs_model.specs.Server.Tree.{first_ordinal}
use Rattle.bfs_digest.specs.Inside.RecordReading.{entries_from}
use Rattle.bfs_digest.proofs.Rising.{left}
use Rattle.bfs_digest.proofs.spelling.skip_entries.Given as goal

-- what is left behind all is left behind those that are left
abbrev pub invariant-loop-entry : goal.invariant-loop-entry
invariant-loop-entry l = left (entries_from l.count first_ordinal l.fn.reader) ≡ left (entries_from (l.count - l._entry) l.least l.reader)
