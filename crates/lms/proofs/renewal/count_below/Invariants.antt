use Rattle.std.proofs.Common.{◌≡◌, ◌≤◌, ◌*◌, take}
use Rattle.std.specs.Prelude.{sum_by}
use Rattle.lms.specs.Types.{height}
use Rattle.lms.proofs.renewal.count_below.Given as goal

abbrev pub invariant-loop-types : goal.invariant-loop-types
invariant-loop-types l = record {
  bits : l.bits ≡ sum_by (λ types. height types.lms) (take l.types-index l.below);
  few : l.bits ≤ 25 * l.types-index;
}
