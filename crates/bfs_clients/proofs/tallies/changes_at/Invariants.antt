use Rattle.std.proofs.Common.{◌≡◌, take}
use Rattle.bfs_clients.specs.Tallies.{tallied_by}
use Rattle.bfs_clients.specs.Inside.Places.{changes}
use Rattle.bfs_clients.proofs.tallies.changes_at.Given as goal

abbrev pub invariant-loop-place : goal.invariant-loop-place
invariant-loop-place l = l.changed.items ≡ changes (λ tally. tallied_by l.clients tally l.signed) l.tallies (take l.place-index l.places)
