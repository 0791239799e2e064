use Rattle.std.proofs.Common.{◌≡◌, ◌++◌, drop, map, take}
use Rattle.bfs_policy.specs.Peers.{peer_after}
use Rattle.bfs_policy.proofs.peers.look_at_all.Given as goal

abbrev pub invariant-loop-peer : goal.invariant-loop-peer
invariant-loop-peer l = l.peers ≡ map (peer_after l.own l.now) (take l.peer-index l.initial.peers) ++ drop l.peer-index l.initial.peers
