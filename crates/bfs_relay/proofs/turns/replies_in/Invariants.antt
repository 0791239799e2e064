use Rattle.std.proofs.Common.{◌≡◌, take}
use Rattle.std.specs.List.{filter_map}
use Rattle.bfs_relay.specs.Turns.{reply_in}
use Rattle.bfs_relay.proofs.turns.replies_in.Given as goal

abbrev pub invariant-loop-frame : goal.invariant-loop-frame
invariant-loop-frame l = l.replies.items ≡ filter_map reply_in (take l.frame-index l.frames)
