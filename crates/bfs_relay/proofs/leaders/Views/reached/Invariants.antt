use Rattle.std.proofs.Common.{◌≡◌, filter, fold, max, take}
use Rattle.bfs_relay.specs.Leaders.{is_reached}
use Rattle.bfs_relay.proofs.leaders.Views.reached.Given as goal

abbrev pub invariant-loop-view : goal.invariant-loop-view
invariant-loop-view l = l.latest ≡ fold max 0 (filter (is_reached l.f l.self) (take l.view-index l.view-items))
