use Rattle.std.proofs.Common.{◌≡◌, ◌++◌, map}
use Rattle.bfs_overtaking.specs.declared.calls.State.TheVariants.{Waiting}
use Rattle.bfs_overtaking.proofs.calls.all_waiting.Given as goal

-- the calls so far, and those of the footprints that are left, are all
abbrev pub invariant-loop-footprint : goal.invariant-loop-footprint
invariant-loop-footprint l = l.calls.items ++ map (λ footprint. record { footprint = footprint; state = Waiting }) l.footprint-iterator.rest.items ≡ map (λ footprint. record { footprint = footprint; state = Waiting }) l.fn.footprints.items
