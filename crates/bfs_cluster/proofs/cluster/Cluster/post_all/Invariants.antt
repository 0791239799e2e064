use Rattle.std.proofs.Common.{◌≡◌, map}
use Rattle.bfs_cluster.specs.Inside.Aside.{posted_all}
use Rattle.bfs_cluster.proofs.cluster.Cluster.post_all.Given as goal

abbrev pub invariant-loop-sent : goal.invariant-loop-sent
invariant-loop-sent l =
    posted_all l.sender l.self (map (λ sent. sent.items) l.sent-iterator.rest.items) ≡ posted_all l.fn.sender l.fn.self (map (λ sent. sent.items) l.fn.all.items)
