use Rattle.std.proofs.Common.{◌≡◌, map, take}
use Rattle.bfs_replay.specs.Runs.{as_message}
use Rattle.bfs_replay.proofs.blocks.requests_in.Given as goal

abbrev pub invariant-loop-request : goal.invariant-loop-request
invariant-loop-request l = l.requests.items ≡ map as_message (take l.request-index l.block.requests)
