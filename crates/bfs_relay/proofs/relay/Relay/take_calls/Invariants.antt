use Rattle.std.proofs.Common.{◌≡◌, take}
use Rattle.std.specs.List.{fold}
use Rattle.bfs_relay.specs.Turns.{call_taken}
use Rattle.bfs_relay.proofs.relay.Relay.take_calls.Given as goal

abbrev pub invariant-loop-frame : goal.invariant-loop-frame
invariant-loop-frame l = l.self ≡ fold (call_taken l.now) l.fn.self (take l.frame-index l.frames)
