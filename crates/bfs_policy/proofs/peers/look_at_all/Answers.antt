use Rattle.std.proofs.Common.{◌<◌, length, arith}
use Rattle.std.proofs.lemmas.List.{get_or_default}
use Rattle.bfs_policy.proofs.Each.{each_more}
use Rattle.bfs_policy.specs.Peers.{peer_after}
use Rattle.bfs_policy.proofs.peers.look_at_all.Goals as goal

pub loop-peer-preserved : goal.loop-peer-preserved
loop-peer-preserved c =
    let all = c.args.peers.now in
    let now = c.loop-peer.peers in
    let place = c.loop-peer.peer-index in
    let within : place < length all = omega arith in
    let here : place < length now = omega arith in
    each_more (peer_after c.args.own c.args.now) all now place _ c.look.new.self within c.loop-peer.invariant (get_or_default now place _ _ here) c.look.ensures
