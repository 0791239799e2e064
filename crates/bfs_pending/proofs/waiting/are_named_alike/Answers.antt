use Rattle.std.proofs.Common.{◌≡◌, ◌∙◌, true, [], ◌∷◌, ◌++◌, All, ap, arith, subst, sym, take}
use Rattle.std.specs.List.{list_any}
use Rattle.std.proofs.lemmas.Bool.{not-false}
use Rattle.std.proofs.lemmas.List.{take_more}
use Rattle.std.proofs.lemmas.List.Elements.{All-push}
use Rattle.std.proofs.lemmas.List.Folds.{list_any_at}
use Rattle.bfs_messages.specs.Messages.{Request}
use Rattle.bfs_messages.specs.declared.signed.Signed.{Signed}
use Rattle.bfs_pending.specs.Requests.{is_same}
use Rattle.bfs_pending.proofs.waiting.are_named_alike.Goals as goal

pub loop-number-preserved : goal.loop-number-preserved
loop-number-preserved c =
    let waiting = c.args.waiting.now in
    let requests = c.args.requests.now in
    let i = c.loop-number.number in
    let one = c.index-waiting-number.result in
    let other = c.index-requests-number.result in
    let same : is_same one other ≡ true = not-false (is_same one other) (sym (rw (c.name_of.ensures, c.name_of-in-loop-number.ensures) at c.if-ne.ensures)) in
    let here : list_any (is_same one) requests ≡ true =
    list_any_at (is_same one) requests i other (omega (arith, c.loop-number-test.true, c.if-waiting-requests.false)) (ap (λ (r : Signed Request). is_same one r) (sym c.index-requests-number.is) ∙ same) in
    subst (All (λ one. list_any (is_same one) requests ≡ true)) (sym (take_more waiting i one c.loop-number-test.true ∙ ap (λ (x : Signed Request). take i waiting ++ x ∷ []) (sym c.index-waiting-number.is)))
    (All-push (λ one. list_any (is_same one) requests ≡ true) (take i waiting) one c.loop-number.invariant here)
