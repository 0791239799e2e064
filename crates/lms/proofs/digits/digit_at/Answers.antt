use Rattle.std.proofs.Common.{sym, ap, ◌∙◌, arith}
use Rattle.lms.specs.Types.{width}
use Rattle.lms.specs.Digits.{coef}
use Rattle.lms.proofs.DigitSums.{byte_digit}
use Rattle.lms.proofs.digits.digit_at.Goals as goal

pub returns-in-W8 : goal.returns-in-W8
returns-in-W8 c = sym (ap (λ ots. coef (width ots) c.args.bytes.now c.args.place) c.in-W8.is ∙ byte_digit c.args.bytes.now c.args.place (omega (arith, c.type_inv.bytes c.args.place)))
