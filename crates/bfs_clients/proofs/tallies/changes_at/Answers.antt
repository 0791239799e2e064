use Rattle.std.proofs.Common.{◌∙◌, ◌++◌, ◌∷◌, [], ℕ, List, get_or, refl, sym, ap, ap₂}
use Rattle.std.proofs.lemmas.Bool.{ltb-false, ltb-true}
use Rattle.std.proofs.lemmas.Option.{slice_get_past, slice_get_read}
use Rattle.bfs_clients.specs.Tallies.{Tally, tallied_by}
use Rattle.bfs_clients.proofs.Places.{none_changed, one_changed}
use Rattle.bfs_clients.proofs.tallies.changes_at.Goals as goal
use Rattle.bfs_clients.proofs.tallies.changes_at.Goals.{in-Some+in_ok-with_checked+in_ok-push, in_default}

pub loop-place-preserved : goal.loop-place-preserved
loop-place-preserved c =
    let change : Tally → Tally = λ tally. tallied_by c.args.clients.now tally c.args.signed.now in
    let place : ℕ = get_or c.args.places.now c.loop-place.place-index 0 in
    elim c.match-get.branch [
      | in-Some+in_ok-with_checked+in_ok-push w ↦
          let told = rw w.in-Some.is at c.get.ensures.lookup in
          ap (λ changed. changed.items) w.changed-is ∙ w.in_ok-push.ensures.items
          ∙ ap₂ (λ (before : List (ℕ × Tally)) (tally : Tally). before ++ (place, tally) ∷ []) c.loop-place.invariant w.in_ok-with_checked.ensures
          ∙ one_changed change c.args.tallies.now c.args.places.now c.loop-place.place-index place w.in-Some.tally.now c.loop-place-test.true refl
          (slice_get_read c.args.tallies.now _ place w.in-Some.tally.now refl (ltb-true _ _ (sym told.0)) told.1)
      | in_default w ↦
          let told = rw w.in_default.is at c.get.ensures.lookup in
          ap (λ changed. changed.items) w.changed-is ∙ c.loop-place.invariant
          ∙ none_changed change c.args.tallies.now c.args.places.now c.loop-place.place-index place c.loop-place-test.true refl
          (slice_get_past c.args.tallies.now place (ltb-false _ _ (sym told.0)))
    ]
