use Rattle.std.proofs.Common.{take}
use Rattle.bfs_overtaking.specs.Inside.Lent.{AreLentOut}
use Rattle.bfs_overtaking.proofs.loans.lend_each.Given as goal

abbrev pub invariant-loop-id : goal.invariant-loop-id
invariant-loop-id l = AreLentOut l.fn.tree l.tree (take l.id-index l.ids) l.loans
