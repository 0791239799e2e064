use Rattle.std.proofs.Common.{◌≡◌, ℕ, subst}
use Rattle.std.specs.Prelude.{IfOk, OnOk}
use Rattle.bfs_node.specs.Changing.{left_for}
use Rattle.bfs_node.proofs.node.Node.timeout.Goals as goal

pub returns-clause-now : goal.returns-clause-now
returns-clause-now c = subst (λ (view : ℕ). OnOk c.leave_for.result (c.leave_for.new.self ≡ (left_for c.args.self.now view).now)) c.next_view-view.ensures c.leave_for.ensures.now

pub returns-clause-sent : goal.returns-clause-sent
returns-clause-sent c = subst (λ (view : ℕ). IfOk c.leave_for.result (λ sent. sent.items ≡ (left_for c.args.self.now view).sent)) c.next_view-view.ensures c.leave_for.ensures.sent
