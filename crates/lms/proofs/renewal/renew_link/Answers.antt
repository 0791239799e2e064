use Rattle.std.proofs.Common.{◌≡◌, ◌++◌, ◌<◌, ◌∷◌, [], length, take, sym, ap, ◌∙◌, get_or, arith}
use Rattle.std.proofs.lemmas.List.{get_or_default, take_more}
use Rattle.lms.specs.declared.place.Place.{Place}
use Rattle.lms.proofs.Ways.{same_place}
use Rattle.lms.proofs.renewal.renew_link.Goals as goal

pub returns-then-eq-clause-place : goal.returns-then-eq-clause-place
returns-then-eq-clause-place c =
    let links = c.args.links.now.items in
    let level = c.args.level in
    let within : level < length links = omega arith in
    let kept : c.place.result ≡ c.args.place = same_place c.place.result c.args.place (sym c.if-eq.ensures) in
    let there : get_or links level c.args.place ≡ c.args.place =
    get_or_default links level c.args.place c.index.result.now within ∙ sym c.index.ensures ∙ sym c.place.ensures ∙ kept in
    take_more links level c.args.place within ∙ ap (λ (p : Place). take level links ++ p ∷ []) there
