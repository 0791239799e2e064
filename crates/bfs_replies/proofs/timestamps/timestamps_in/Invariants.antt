use Rattle.std.proofs.Common.{◌≡◌, map, take}
use Rattle.bfs_replies.specs.Classes.{timestamp_of}
use Rattle.bfs_replies.proofs.timestamps.timestamps_in.Given as goal

abbrev pub invariant-loop-last : goal.invariant-loop-last
invariant-loop-last l = l.timestamps.items ≡ map timestamp_of (take l.last-index l.clients)
