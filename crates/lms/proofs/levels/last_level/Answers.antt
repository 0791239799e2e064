use Rattle.std.proofs.Common.{◌≡◌, ◌-◌, ◌+◌, length, take, drop, refl, ap, ◌∙◌, arith, length-drop}
use Rattle.std.proofs.lemmas.List.{length-take}
use Rattle.std.specs.Prelude.{Some}
use Rattle.lms.specs.Levels.{is_signed_over}
use Rattle.lms.proofs.Nested.{last_over}
use Rattle.lms.proofs.Upper.{ended, if_none, onward}
use Rattle.lms.proofs.levels.last_level.Goals as goal

pub returns-in_err-next-clause-none : goal.returns-in_err-next-clause-none
returns-in_err-next-clause-none c =
    let l = c.loop-level in
    let left = c.args.below - l._level in
    let n = c.args.below - (l._level + 1) in
    let rest = take (length c.args.bytes.now - l.place) (drop l.place c.args.bytes.now) in
    if_none c.from_residual.result
    (ended c.args.below left n c.args.key l.key l.place c.args.bytes.now rest (omega arith) l.invariant.so refl c.in_err-next.ensures.none)

pub loop-level-preserved : goal.loop-level-preserved
loop-level-preserved c =
    let l = c.loop-level in
    let left = c.args.below - l._level in
    let n = c.args.below - (l._level + 1) in
    let next = c.in_ok-next.next in
    let told = c.in_ok-next.ensures in
    let rest = take (length c.args.bytes.now - l.place) (drop l.place c.args.bytes.now) in
    record {
      within = omega (arith, told.within, length-take (length c.args.bytes.now - l.place) (drop l.place c.args.bytes.now), length-drop l.place c.args.bytes.now, l.invariant.within);
      so = onward c.args.below left n c.args.key l.key next.key l.place next.place c.args.bytes.now rest (omega arith) l.invariant.so refl told.place told.within told.signed told.key;
    }

pub returns-clause-some : goal.returns-clause-some
returns-clause-some c = λ text bytes.
    let l = c.loop-level in
    let none : c.args.below - l._level ≡ 0 = omega arith in
    l.invariant.so text bytes ∙ ap (λ k. is_signed_over k (Some l.key) text bytes) none ∙ last_over l.key text bytes
