use Rattle.std.proofs.Common.{◌≡◌, ℕ, ◌+◌, ◌-◌, sym, ap, ◌∙◌, arith}
use Rattle.lms.specs.Types.{last_step, width}
use Rattle.lms.specs.Digits.{coef, sum_of}
use Rattle.lms.proofs.DigitSums.{sum_more, sum_none}
use Rattle.lms.proofs.digits.checksum.Goals as goal

pub loop-place-init : goal.loop-place-init
loop-place-init c = record { sum = sym (sum_none _); small = omega arith }

pub loop-place-preserved : goal.loop-place-preserved
loop-place-preserved c =
    let f : ℕ → ℕ = λ place. last_step c.args.ots - coef (width c.args.ots) c.args.hash.now place in
    let added : c.from-sum.result ≡ f c.loop-place.place = cc in
    record {
      sum = ap (λ s. s + c.from-sum.result) c.loop-place.invariant.sum ∙ ap (λ d. sum_of f c.loop-place.place + d) added ∙ sym (sum_more f c.loop-place.place);
      small = omega arith;
    }
