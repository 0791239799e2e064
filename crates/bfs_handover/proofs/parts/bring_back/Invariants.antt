use Rattle.std.proofs.Common.{◌≡◌}
use Rattle.bfs_handover.specs.Moves.{AreLent, brought_home}
use Rattle.bfs_handover.specs.Inside.Taking.{all_loans}
use Rattle.bfs_handover.proofs.parts.bring_back.Given as goal

-- what is left to bring makes of the tree what all of it makes of the tree before
abbrev pub invariant-loop-job : goal.invariant-loop-job
invariant-loop-job l =
    AreLent l.tree (all_loans l.job-iterator.rest.items)
    × (brought_home (all_loans l.job-iterator.rest.items) l.tree ≡ brought_home (all_loans l.fn.jobs.items) l.fn.tree)
