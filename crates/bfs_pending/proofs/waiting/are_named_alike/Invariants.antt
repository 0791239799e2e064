use Rattle.std.proofs.Common.{◌≡◌, true, All, take}
use Rattle.std.specs.List.{list_any}
use Rattle.bfs_pending.specs.Requests.{is_same}
use Rattle.bfs_pending.proofs.waiting.are_named_alike.Given as goal

abbrev pub invariant-loop-number : goal.invariant-loop-number
invariant-loop-number l = All (λ one. list_any (is_same one) l.requests ≡ true) (take l.number l.waiting)
