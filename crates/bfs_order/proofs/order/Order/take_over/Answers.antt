use Rattle.std.proofs.Common.{sym, ◌∙◌}
use Rattle.bfs_order.proofs.Entering.{taken_so}
use Rattle.bfs_order.proofs.order.Order.take_over.Goals as goal

pub returns-in-None-clause-now : goal.returns-in-None-clause-now
returns-in-None-clause-now c =
    let so = taken_so c.args.keys.now c.args.self.now c.args.proposal c.into_order-signed.result c.into_order-signed.ensures (sym c.in-None.is ∙ c.place_refusal-refused.ensures.value) in
    rw (← so) c.accept.ensures.now

pub returns-in-None-clause-sent : goal.returns-in-None-clause-sent
returns-in-None-clause-sent c =
    let so = taken_so c.args.keys.now c.args.self.now c.args.proposal c.into_order-signed.result c.into_order-signed.ensures (sym c.in-None.is ∙ c.place_refusal-refused.ensures.value) in
    rw (← so) c.accept.ensures.sent
