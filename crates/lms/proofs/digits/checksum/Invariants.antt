use Rattle.std.proofs.Common.{◌≡◌, ◌-◌, ◌*◌, ◌≤◌}
use Rattle.lms.specs.Types.{last_step, width}
use Rattle.lms.specs.Digits.{coef, sum_of}
use Rattle.lms.proofs.digits.checksum.Given as goal

abbrev pub invariant-loop-place : goal.invariant-loop-place
invariant-loop-place l = record {
  sum : l.sum ≡ sum_of (λ place. last_step l.ots - coef (width l.ots) l.hash place) l.place;
  small : l.sum ≤ l.place * last_step l.ots;
}
