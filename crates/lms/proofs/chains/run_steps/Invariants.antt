use Rattle.std.proofs.Common.{◌≡◌, ◌-◌, take, drop}
use Rattle.lms.specs.Chains.{steps}
use Rattle.lms.proofs.chains.run_steps.Given as goal

abbrev pub invariant-loop-number : goal.invariant-loop-number
invariant-loop-number l = record {
  front : take 22 l.block ≡ take 22 l.fn.block;
  value : drop 23 l.block ≡ steps (take 22 l.fn.block) l.from (l.number - l.from) (drop 23 l.fn.block);
}
