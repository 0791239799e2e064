use Rattle.bfs_model.specs.Server.Tree.{entries_in}
use Rattle.tests_server.specs.Entries.{AreNumbered}
use Rattle.tests_server.proofs.limits.fill.Given as goal

-- the entries so far are of lower numbers
abbrev pub invariant-loop-number : goal.invariant-loop-number
invariant-loop-number l = AreNumbered l.number (entries_in l.inode.body)
