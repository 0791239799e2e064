use Rattle.std.proofs.Common.{◌≡◌, ◌-◌}
use Rattle.bfs_model.specs.Server.Tree.{root_id}
use Rattle.bfs_digest.specs.Inside.TextReading.{records_from}
use Rattle.bfs_digest.proofs.Rising.{left}
use Rattle.bfs_digest.proofs.spelling.skip_records.Given as goal

-- what is left behind all is left behind those that are left
abbrev pub invariant-loop-record : goal.invariant-loop-record
invariant-loop-record l = left (records_from l.version l.count root_id l.fn.reader) ≡ left (records_from l.version (l.count - l._record) l.least l.reader)
