use Rattle.std.proofs.Common.{◌≡◌, take}
use Rattle.bfs_log.specs.Showing.{backing_said}
use Rattle.bfs_log.proofs.showing.backing_among.Given as goal

abbrev pub invariant-loop-said : goal.invariant-loop-said
invariant-loop-said l = l.found.items ≡ backing_said l.f l.proposed (take l.said-index l.row)
