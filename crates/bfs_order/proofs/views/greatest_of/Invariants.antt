use Rattle.std.proofs.Common.{◌≡◌, max, drop}
use Rattle.bfs_order.specs.Replica.Views.{as_proposals, greatest_number}
use Rattle.bfs_order.proofs.views.greatest_of.Given as goal

abbrev pub invariant-loop-signed : goal.invariant-loop-signed
invariant-loop-signed l = max l.greatest (greatest_number (as_proposals (drop l.signed-index l.handed))) ≡ greatest_number (as_proposals l.handed)
