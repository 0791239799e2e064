use Rattle.std.proofs.Common.{◌≡◌, take}
use Rattle.bfs_handover.specs.Merging.{numbers_in}
use Rattle.bfs_handover.proofs.results.are_numbers.Given as goal

abbrev pub invariant-loop-place : goal.invariant-loop-place
invariant-loop-place l = take l.place (numbers_in l.dones) ≡ take l.place l.numbers
