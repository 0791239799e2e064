use Rattle.std.proofs.Common.{◌≡◌, ◌≤◌, drop, length, take, vec_len, vec_capacity}
use Rattle.bfs_handover.specs.Moves.{AreAtHome, lent_out, taken}
use Rattle.bfs_handover.proofs.moves.take_each.Given as goal

abbrev pub invariant-loop-id : goal.invariant-loop-id
invariant-loop-id l =
    AreAtHome l.tree (drop l.id-index l.ids)
    × (l.loans.items ≡ taken (take l.id-index l.ids) l.fn.tree)
    × (l.tree ≡ lent_out (take l.id-index l.ids) l.fn.tree)
    × (vec_len l.loans ≡ l.id-index)
    × (length l.ids ≤ vec_capacity l.loans)
