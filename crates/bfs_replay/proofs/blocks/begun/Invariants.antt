use Rattle.std.proofs.Common.{◌≡◌, map, take}
use Rattle.bfs_clients.specs.Tallies.{no_replies}
use Rattle.bfs_replay.proofs.blocks.begun.Given as goal

abbrev pub invariant-loop-request : goal.invariant-loop-request
invariant-loop-request l = l.tallies ≡ map (λ request. no_replies l.clients.f request.client request.timestamp) (take l.request-index l.requests)
