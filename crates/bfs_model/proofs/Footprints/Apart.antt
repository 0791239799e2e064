-- Calls whose footprints do not conflict, whatever a call is: they may change places.
use Rattle.std.proofs.Common.{◌≡◌, ℕ, Bool, true, false, cond, List, [], ◌∷◌, refl, sym, ap, ◌∙◌, eqb, eqb-true, ⊎_elim}
use Rattle.std.specs.List.{list_any}
use Rattle.std.specs.FinMap.{get}
use Rattle.std.proofs.lemmas.Bool.{cond-true, cond-false, or_parts, or_cases}
use Rattle.bfs_model.specs.Server.Tree.{Inodes}
use Rattle.bfs_model.specs.Server.Footprints.{Footprint, known, whole}
use Rattle.bfs_model.specs.Server.Conflicts.{among, is_written, is_touched, conflict, AgreeOn, outcome_on}
use Rattle.bfs_model.proofs.Footprints.Agreement.{same_inodes, get-closed, written_is_touched}

pub none_hit : (p : ℕ → Bool) (ids : List ℕ) → list_any p ids ≡ false → (id : ℕ) → among ids id ≡ true → p id ≡ false
none_hit p [] none id within = absurd cc
none_hit p (other ∷ ids) none id within =
    let parts = or_parts (p other) (list_any p ids) none in
    ⊎_elim (λ here. ap p (sym (eqb-true other id here)) ∙ parts.0) (none_hit p ids parts.1 id) (or_cases (eqb other id) (among ids id) within)

-- what one writes the other does not touch
pub record AreApart (f g : Footprint) : Type 0 where
  pub first : (id : ℕ) → is_written f id ≡ true → is_touched g id ≡ false
  pub second : (id : ℕ) → is_written g id ≡ true → is_touched f id ≡ false

pub apart : (f g : Footprint) → conflict f g ≡ false → AreApart f g
apart (known reads writes) (known others theirs) none =
    let parts = or_parts (list_any (is_touched (known others theirs)) writes) (list_any (is_touched (known reads writes)) theirs) none in
    record { first = none_hit (is_touched (known others theirs)) writes parts.0; second = none_hit (is_touched (known reads writes)) theirs parts.1 }
apart (known reads writes) whole none = absurd cc
apart whole g none = absurd cc

pub turned : (a b : Bool) → (a ≡ true → b ≡ false) → b ≡ true → a ≡ false
turned true b misses is = absurd (let none : b ≡ false = misses refl in cc)
turned false b misses is = refl

module _ {C R : Type 0} (run : C → Inodes → Inodes × R) (feet : C → Inodes → Footprint) (sound : (c : C) (m others : Inodes) → AgreeOn (feet c m) m others → run c others ≡ outcome_on (feet c m) others (run c m)) where
  -- a call on inodes that agree on what it touches: what it leaves where it writes, and elsewhere
  pub left_at : (c : C) (m others : Inodes) → AgreeOn (feet c m) m others → (id : ℕ) → get (run c others).0 id ≡ cond (is_written (feet c m) id) (get (run c m).0 id) (get others id)
  left_at c m others agree id = ap (λ outcome. get outcome.0 id) (sound c m others agree) ∙ get-closed (feet c m) (run c m).0 others id

  pub inside : (c : C) (m others : Inodes) → AgreeOn (feet c m) m others → (id : ℕ) → is_written (feet c m) id ≡ true → get (run c others).0 id ≡ get (run c m).0 id
  inside c m others agree id is = left_at c m others agree id ∙ cond-true (is_written (feet c m) id) (get (run c m).0 id) (get others id) is

  pub elsewhere : (c : C) (m others : Inodes) → AgreeOn (feet c m) m others → (id : ℕ) → is_written (feet c m) id ≡ false → get (run c others).0 id ≡ get others id
  elsewhere c m others agree id is = left_at c m others agree id ∙ cond-false (is_written (feet c m) id) (get (run c m).0 id) (get others id) is

  -- what a call does not write stays
  pub stays : (c : C) (m : Inodes) (id : ℕ) → is_written (feet c m) id ≡ false → get (run c m).0 id ≡ get m id
  stays c m id is = elsewhere c m m (λ id touched. refl) id is

  -- so that other calls see what they touch
  pub seen_after : (c d : C) (m : Inodes) → AreApart (feet c m) (feet d m) → AgreeOn (feet d m) m (run c m).0
  seen_after c d m away id touched = stays c m id (turned (is_written (feet c m) id) (is_touched (feet d m) id) (away.first id) touched)

  swapped_at : (a b : Bool) (c d : C) (m : Inodes) (id : ℕ) → is_written (feet c m) id ≡ a → is_written (feet d m) id ≡ b → AreApart (feet c m) (feet d m)
      → cond b (get (run d m).0 id) (get (run c m).0 id) ≡ cond a (get (run c m).0 id) (get (run d m).0 id)
  swapped_at true true c d m id is also away = absurd (let one : is_touched (feet d m) id ≡ false = away.first id is in let two : is_touched (feet d m) id ≡ true = written_is_touched (feet d m) id also in cc)
  swapped_at true false c d m id is also away = refl
  swapped_at false true c d m id is also away = refl
  swapped_at false false c d m id is also away = stays c m id is ∙ sym (stays d m id also)

  pub commute : (c d : C) (m : Inodes) → conflict (feet c m) (feet d m) ≡ false
      → ((run d (run c m).0).0 ≡ (run c (run d m).0).0) × ((run d (run c m).0).1 ≡ (run d m).1) × ((run c (run d m).0).1 ≡ (run c m).1)
  commute c d m none =
      let away : AreApart (feet c m) (feet d m) = apart (feet c m) (feet d m) none in
      let back : AreApart (feet d m) (feet c m) = record { first = away.second; second = away.first } in
      let one : AgreeOn (feet d m) m (run c m).0 = seen_after c d m away in
      let two : AgreeOn (feet c m) m (run d m).0 = seen_after d c m back in (
        same_inodes _ _ (λ id. left_at d m (run c m).0 one id ∙ swapped_at (is_written (feet c m) id) (is_written (feet d m) id) c d m id refl refl away ∙ sym (left_at c m (run d m).0 two id)),
        ap (λ outcome. outcome.1) (sound d m (run c m).0 one),
        ap (λ outcome. outcome.1) (sound c m (run d m).0 two),
      )
