use Rattle.std.proofs.Common.{◌≡◌, max}
use Rattle.bfs_log.specs.Places.{greatest_in}
use Rattle.bfs_log.proofs.places.greatest_in.Given as goal

-- the greatest so far, and of what is left
abbrev pub invariant-loop-place : goal.invariant-loop-place
invariant-loop-place l = max l.greatest (greatest_in l.view l.place-iterator) ≡ greatest_in l.view l.places.entries
