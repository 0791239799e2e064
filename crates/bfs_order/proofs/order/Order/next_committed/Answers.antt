use Rattle.std.proofs.Common.{sym, ◌∙◌}
use Rattle.bfs_order.proofs.Next.{next_none, next_some}
use Rattle.bfs_order.proofs.order.Order.next_committed.Goals as goal

pub returns-in-Some : goal.returns-in-Some
returns-in-Some c = c.where_committed.ensures ∙ sym (next_some c.args.self.now c.in-Some.proposal.now (sym c.in-Some.ensures))

pub returns-in-None : goal.returns-in-None
returns-in-None c = sym (next_none c.args.self.now (sym c.in-None.ensures))
