use Rattle.std.proofs.Common.{◌≡◌, sym, ap, ◌∙◌}
use Rattle.std.proofs.lemmas.Slice.Eq.{slice_eq-Decides}
use Rattle.lms.proofs.Ways.{key_decides, types_decide}
use Rattle.lms.proofs.signer.Signer.is_of.Goals as goal

pub returns-then-eq : goal.returns-then-eq
returns-then-eq c =
    let key = c.args.self.now in
    let first_is : c.key.result.now ≡ key.first = c.key.ensures ∙ ap (λ k. k.first) c.self.view_is in
    let first_alike : c.key.result.now ≡ c.args.first.now = (key_decides c.key.result.now c.args.first.now).0 (sym c.eq.ensures ∙ c.if-eq.true) in
    let first : key.first ≡ c.args.first.now = sym first_is ∙ first_alike in
    let levels_are : c.deref.result.now ≡ key.below = c.deref.ensures.value ∙ ap (λ k. k.below) c.self.view_is in
    let decides = slice_eq-Decides types_decide c.deref.result.now c.args.below.now c.eq-then-eq.result c.eq-then-eq.ensures in (
      λ yes.
          let below : key.below ≡ c.args.below.now = sym levels_are ∙ decides.0 yes in
          λ i. record { first = first i; below = below i },
      λ e. decides.1 (levels_are ∙ ap (λ k. k.below) e),
    )
