use Rattle.std.proofs.Common.{◌≡◌, ◌≤◌, length}
use Rattle.bfs_handover.specs.Splitting.{part_with}
use Rattle.bfs_handover.proofs.SplitLemmas.{AreBegun}
use Rattle.bfs_handover.proofs.parts.take_all.Given as goal
use Rattle.std.specs.Prelude.{vec_len, vec_capacity}

abbrev pub invariant-loop-number : goal.invariant-loop-number
invariant-loop-number l =
    AreBegun l.fn.tree (part_with l.part l.footprints) l.numbers l.number-index l.jobs.items l.tree
    × (vec_len l.jobs ≡ l.number-index)
    × (length l.numbers ≤ vec_capacity l.jobs)
