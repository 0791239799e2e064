use Rattle.std.proofs.Common.{◌≡◌, ◌≤◌, List, arith, ap, ◌∙◌}
use Rattle.std.specs.Prelude.{sum_by}
use Rattle.std.proofs.Math.Pow.{pow_mono}
use Rattle.std.proofs.lemmas.List.{take_all}
use Rattle.lms.specs.declared.types.TreeTypes.{TreeTypes}
use Rattle.lms.specs.Types.{height}
use Rattle.lms.proofs.renewal.count_below.Goals as goal

pub returns-else-bits-lt64-clause-none : goal.returns-else-bits-lt64-clause-none
returns-else-bits-lt64-clause-none c =
    let l = c.loop-types in
    let all = c.args.below.now in
    let bits : l.bits ≡ sum_by (λ types. height types.lms) all =
    l.invariant.bits ∙ ap (λ (b : List TreeTypes). sum_by (λ types. height types.lms) b) (take_all l.types-index all (omega arith)) in
    let many : 64 ≤ sum_by (λ types. height types.lms) all = omega (arith, bits) in
    pow_mono many
