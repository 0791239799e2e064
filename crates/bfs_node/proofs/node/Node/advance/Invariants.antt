use Rattle.std.proofs.Common.{IsTrue, is_some}
use Rattle.bfs_node.specs.Executing.{Runs}
use Rattle.bfs_node.specs.Inside.Acting.{HasAdvanced}
use Rattle.bfs_node.proofs.node.Node.advance.Given as goal

abbrev pub invariant-loop : goal.invariant-loop
invariant-loop g l = HasAdvanced (Runs g.G.Gate.ran l.fn.executor.engine) l.fn.self l.sent.items l.self × IsTrue (is_some l.self.files)
