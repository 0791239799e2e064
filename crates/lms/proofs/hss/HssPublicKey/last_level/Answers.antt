use Rattle.std.proofs.Common.{◌-◌, length, take, drop, refl}
use Rattle.lms.proofs.Upper.{if_none, lead_to, not_formed, signs_nothing}
use Rattle.lms.proofs.hss.HssPublicKey.last_level.Goals as goal

pub returns-then-not-is_formed_over-clause-none : goal.returns-then-not-is_formed_over-clause-none
returns-then-not-is_formed_over-clause-none c =
    let below = c.in_ok-below.below in
    let signature = c.args.signature.now in
    let rest = take (length signature - 4) (drop 4 signature) in
    signs_nothing c.args.self.now below signature rest c.in_ok-below.ensures.there.1 refl (not_formed below c.args.self.now.key rest cc)

pub returns-in_err-last-clause-none : goal.returns-in_err-last-clause-none
returns-in_err-last-clause-none c =
    let signature = c.args.signature.now in
    let rest = take (length signature - 4) (drop 4 signature) in
    if_none c.from_residual-in_err-last.result
    (signs_nothing c.args.self.now c.in_ok-below.below signature rest c.in_ok-below.ensures.there.1 refl c.in_err-last.ensures.none)

pub returns-clause-some : goal.returns-clause-some
returns-clause-some c =
    let signature = c.args.signature.now in
    let rest = take (length signature - 4) (drop 4 signature) in
    let below = c.in_ok-below.ensures in
    lead_to c.args.self.now c.in_ok-below.below c.in_ok-last.last.place signature rest c.in_ok-last.last.key below.there.1 below.fits.0 below.fits.1 below.there.0 refl
    c.in_ok-last.ensures.place c.in_ok-last.ensures.some
