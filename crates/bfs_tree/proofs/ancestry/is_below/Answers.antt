use Rattle.std.proofs.Common.{sym, ◌∙◌, arith}
use Rattle.bfs_tree.proofs.Below.{met, at_the_top, one_up, at_the_end}
use Rattle.bfs_tree.proofs.ancestry.is_below.Goals as goal

pub returns-then-eq : goal.returns-then-eq
returns-then-eq g c = sym (met _ _ _ _ (sym c.eq.ensures ∙ c.if-eq.true)) ∙ c.loop-step.invariant.left

pub returns-in-None : goal.returns-in-None
returns-in-None g c = sym (at_the_top _ _ _ _ (sym c.eq.ensures ∙ c.if-eq.false) (sym c.parent_of.ensures ∙ c.in-None.is)) ∙ c.loop-step.invariant.left

pub loop-step-preserved : goal.loop-step-preserved
loop-step-preserved g c = record {
  whole = c.loop-step.invariant.whole;
  end = c.loop-step.invariant.end;
  left = sym (one_up _ _ _ _ _ _ (omega arith) (sym c.eq.ensures ∙ c.if-eq.false) (sym c.parent_of.ensures ∙ c.in-Some.is)) ∙ c.loop-step.invariant.left;
}

pub returns : goal.returns
returns g c = c.eq-2.ensures ∙ sym (at_the_end _ _ _ _ (omega arith)) ∙ c.loop-step.invariant.left
