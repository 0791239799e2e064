use Rattle.std.specs.Prelude.{OnOk}
use Rattle.bfs_cluster.proofs.Aside.{ComesBack}
use Rattle.bfs_cluster.proofs.cluster.Cluster.put_back.Given as goal

abbrev pub invariant-loop-one : goal.invariant-loop-one
invariant-loop-one l = OnOk l.done (ComesBack l.fn.self l.self l.fn.all.items l.one-iterator.rest.items)
