use Rattle.std.proofs.Common.{◌≡◌, take}
use Rattle.std.specs.List.{filter_map}
use Rattle.bfs_replay.specs.Runs.{digest_in}
use Rattle.bfs_replay.proofs.standings.digests_in.Given as goal

abbrev pub invariant-loop-standing : goal.invariant-loop-standing
invariant-loop-standing l = l.digests.items ≡ filter_map digest_in (take l.standing-index l.standings)
