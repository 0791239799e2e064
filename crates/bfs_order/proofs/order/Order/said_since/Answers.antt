use Rattle.std.proofs.Common.{◌≡◌, ◌+◌, ◌-◌, ◌∙◌, ap, arith}
use Rattle.std.specs.List.{flat_map, range_with_len}
use Rattle.bfs_log.specs.Logs.{as_messages}
use Rattle.bfs_model.specs.Server.Limits.{log_size}
use Rattle.bfs_order.specs.Replica.Resending.{resent_of}
use Rattle.bfs_order.proofs.Resent.{one_more}
use Rattle.bfs_order.proofs.order.Order.said_since.Goals as goal

pub loop-number-preserved : goal.loop-number-preserved
loop-number-preserved c = (
  one_more c.args.self.now c.args.to c.loop-number.number _ _ c.in_ok-add_resent.ensures c.loop-number.invariant.0 c.loop-number.invariant.1,
  omega (arith, c.loop-number.invariant.1),
  omega (arith, c.loop-number-test.true, c.high-number-end.ensures),
)

pub returns : goal.returns
returns c =
    let s = c.args.self.now in
    let count : c.loop-number.number - s.low ≡ log_size + 1 = omega (arith, c.loop-number.invariant.1, c.loop-number.invariant.2, c.high-number-end.ensures, c.loop-number-test.false) in
    c.loop-number.invariant.0 ∙ ap (λ k. as_messages (flat_map (resent_of s c.args.to) (range_with_len s.low k))) count
