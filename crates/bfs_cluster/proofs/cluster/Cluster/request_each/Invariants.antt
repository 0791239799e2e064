use Rattle.std.proofs.Common.{◌≡◌, take}
use Rattle.std.specs.List.{fold}
use Rattle.bfs_cluster.specs.Blocks.{requested}
use Rattle.bfs_cluster.proofs.cluster.Cluster.request_each.Given as goal

abbrev pub invariant-loop-signed : goal.invariant-loop-signed
invariant-loop-signed g l = l.self ≡ fold requested l.fn.self (take l.signed-index l.messages)
