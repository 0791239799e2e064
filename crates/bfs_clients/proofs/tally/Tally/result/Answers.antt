-- The first one that is agreed on is this one, or one behind it.
use Rattle.std.proofs.Common.{◌∙◌, Some, ap, sym, arith}
use Rattle.std.specs.Option.{option_map}
use Rattle.bfs_clients.specs.Tallies.{Counted, is_agreed}
use Rattle.bfs_clients.proofs.Finding.{find_here, find_on}
use Rattle.bfs_clients.proofs.tally.Tally.result.Goals as goal

pub returns-then-is_agreed-clause-value : goal.returns-then-is_agreed-clause-value
returns-then-is_agreed-clause-value c =
    let here = find_here (is_agreed c.args.self.now) c.deref-one-items.result.now c.loop-one.one-index c.one-item.result (omega arith) c.one-item.is (sym c.is_agreed.ensures ∙ c.if-is_agreed.true) in
    ap Some c.bytes.ensures.value ∙ ap (option_map (λ (one : Counted). one.result)) (sym here ∙ c.loop-one.invariant)

pub loop-one-preserved : goal.loop-one-preserved
loop-one-preserved c =
    sym (find_on (is_agreed c.args.self.now) c.deref-one-items.result.now c.loop-one.one-index c.one-item.result (omega arith) c.one-item.is (sym c.is_agreed.ensures ∙ c.if-is_agreed.false)) ∙ c.loop-one.invariant
