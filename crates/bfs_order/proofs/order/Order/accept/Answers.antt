use Rattle.std.proofs.Common.{◌∙◌}
use Rattle.bfs_order.proofs.Taking.{now_is}
use Rattle.bfs_order.proofs.order.Order.accept.Goals as goal

pub returns-clause-now : goal.returns-clause-now
returns-clause-now c =
    c.settle.ensures ∙ now_is c.args.keys.now c.args.self.now c.args.signed c.asked_by-asked.result c.add_with_answers.new.self c.asked_by-asked.ensures c.in_ok-sent.ensures.now
