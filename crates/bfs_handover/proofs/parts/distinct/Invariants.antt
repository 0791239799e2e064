use Rattle.std.proofs.Common.{◌≤◌, length, take}
use Rattle.bfs_handover.specs.Inside.Taking.{AreOnce}
use Rattle.bfs_handover.proofs.parts.distinct.Given as goal

abbrev pub invariant-loop-id : goal.invariant-loop-id
invariant-loop-id l = AreOnce l.once (take l.id-index l.ids) × (length l.once ≤ l.id-index)
