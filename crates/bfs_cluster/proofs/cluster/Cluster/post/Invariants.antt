use Rattle.std.proofs.Common.{◌≡◌}
use Rattle.std.specs.List.{fold}
use Rattle.bfs_cluster.specs.World.{posted}
use Rattle.bfs_cluster.proofs.cluster.Cluster.post.Given as goal

abbrev pub invariant-loop-signed : goal.invariant-loop-signed
invariant-loop-signed l = fold (posted l.sender) l.self l.signed-iterator.rest.items ≡ fold (posted l.sender) l.fn.self l.fn.sent.items
