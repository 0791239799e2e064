use Rattle.std.proofs.Common.{◌≡◌, map, take}
use Rattle.bfs_view_change.specs.Changes.Making.{chosen_proposal, signed_proposal}
use Rattle.bfs_view_change.proofs.proposing.proposals_of.Given as goal

abbrev pub invariant-loop-due : goal.invariant-loop-due
invariant-loop-due l = l.proposals.items ≡ map (λ c. signed_proposal l.keys (chosen_proposal l.sender l.view c)) (take l.due-index l.chosen)
