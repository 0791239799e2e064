use Rattle.std.proofs.Common.{List, ℕ, take, drop, refl, sym, ap, ◌∙◌, arith}
use Rattle.lms.specs.Chains.{step}
use Rattle.lms.proofs.Steps.{no_steps, steps_more}
use Rattle.lms.proofs.chains.run_steps.Goals as goal

pub loop-number-init : goal.loop-number-init
loop-number-init c = record { front = refl; value = sym (no_steps _ _ _ _ (omega arith)) }

pub loop-number-preserved : goal.loop-number-preserved
loop-number-preserved c =
    let number = c.loop-number.number in
    let first = c.args.block.now in
    let before = c.loop-number.invariant in
    record {
      front = c.one_step.ensures.front ∙ before.front;
      value = c.one_step.ensures.value ∙ ap (λ (l : List ℕ). step l number (drop 23 c.loop-number.block)) before.front ∙ ap (step (take 22 first) number) before.value
          ∙ sym (steps_more (take 22 first) c.args.from number (drop 23 first) (omega arith));
    }
