use Rattle.std.proofs.Common.{◌≡◌, ◌∙◌, ℕ, sym, subst, arith}
use Rattle.std.specs.Prelude.{Option, IfSome}
use Rattle.std.specs.Option.{option_map}
use Rattle.bfs_log.specs.Certificates.{MakesStable, StableCheckpoint}
use Rattle.bfs_node.proofs.Entering.{same_faults}
use Rattle.bfs_node.proofs.node.Node.enter_by.Goals as goal

pub invariant_of-self : goal.invariant_of-self
invariant_of-self c = record {
  faults = c.self.invariant.faults
      ∙ sym (same_faults c.a_replica_stays_itself.ensures c.self.inside.keys c.self.inside.order c.enter_view_behind-entered.new.self c.view-view.result (option_map (λ checkpoint. checkpoint.now) c.as_ref.result) c.args.handed.items c.in-Ok.ensures.taken c.in-Ok.ensures.now);
  clients = c.self.invariant.clients;
  passed = c.self.invariant.passed;
}

pub settle_above-requires : goal.settle_above-requires
settle_above-requires c =
    let faults : c.enter_view_behind-entered.new.self.f ≡ c.self.inside.order.f =
    same_faults c.a_replica_stays_itself.ensures c.self.inside.keys c.self.inside.order c.enter_view_behind-entered.new.self c.view-view.result (option_map (λ checkpoint. checkpoint.now) c.as_ref.result) c.args.handed.items c.in-Ok.ensures.taken c.in-Ok.ensures.now in
    let low = c.low-low.ensures.value in
    λ lt. subst (λ (f : ℕ). IfSome c.args.stable (MakesStable f)) (sym faults)
    (subst (λ (stable : Option StableCheckpoint). IfSome stable (MakesStable c.self.inside.order.f)) c.as_ref.ensures.value (c.in-Ok.ensures.raised (omega (arith, lt, low))))
