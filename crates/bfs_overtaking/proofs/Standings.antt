-- How calls stand when the slot of one is changed, and what it means that an event is not refused.
use Rattle.std.proofs.Common.{◌≡◌, ℕ, zero, suc, ◌-◌, ◌<◌, ◌≤◌, Bool, true, false, cond, not, ◌&&◌, ◌||◌, true≢false, List, [], ◌∷◌, length, map, take, set, get_or, Some, None, refl, ap, sym, subst, ◌∙◌, arith, eqb, eq-eqb, ne_eqb, inl, inr}
use Rattle.std.proofs.lemmas.Bool.{cond-true, cond-false, cases_eq, leb-true, ltb-true}
use Rattle.std.proofs.lemmas.List.{get_or-set_same, get_or-set_other}
use Rattle.std.proofs.Math.Seq.{map-set_same}
use Rattle.bfs_model.specs.Server.Tree.{Inodes}
use Rattle.bfs_model.specs.Server.Footprints.{Footprint}
use Rattle.bfs_model.specs.Server.Conflicts.{conflict}
use Rattle.bfs_model.specs.Server.Events.{Slot, waiting, taken, finished, is_done, World, put_slot}
use Rattle.bfs_model.specs.Laws.Overtaking.{footprint_at}
use Rattle.bfs_overtaking.specs.declared.errors.CoreError.{CoreError}
use Rattle.bfs_overtaking.specs.Machine.{Standing, Machine, standing_at, standing_of, has_call, is_waiting, is_taken, away_in, holds_back, is_held, take_refusal, finish_refusal, with_slot}
use Rattle.bfs_overtaking.specs.Laws.Reached.{world_of}

get_set : {X : Type 0} (xs : List X) (i j : ℕ) (x d : X) → i < length xs → get_or (set xs i x) j d ≡ cond (eqb i j) x (get_or xs j d)
get_set xs i j x d less = elim (cases_eq i j) [
  | inl same ↦ subst (λ k. get_or (set xs i x) k d ≡ x) same (get_or-set_same xs i x d less) ∙ sym (cond-true (eqb i j) x (get_or xs j d) (eq-eqb i j same))
  | inr other ↦ get_or-set_other xs i j x d (λ e. other (sym e)) ∙ sym (cond-false (eqb i j) x (get_or xs j d) (ne_eqb i j other))
]

slot_by : (b : Bool) (one other : Standing) → (cond b one other).slot ≡ cond b one.slot other.slot
slot_by true one other = refl
slot_by false one other = refl

pub world_with : (m : Machine) (number : ℕ) (slot : Slot (List ℕ)) (home : Inodes) → number - m.first < length m.standings
    → ◌≡◌ {A = World (List ℕ)} (world_of (with_slot m number slot home)) (record { home = home; slots = put_slot (world_of m).slots (number - m.first) slot })
world_with m number slot home less = λ i. record { home = home; slots = λ j. there j i }
  where
    there : (j : ℕ) → (standing_at (set m.standings (number - m.first) (record { footprint = (standing_of m number).footprint; slot = slot })) j).slot ≡ put_slot (world_of m).slots (number - m.first) slot j
    there j = ap (λ (s : Standing). s.slot) (get_set m.standings (number - m.first) j (record { footprint = (standing_of m number).footprint; slot = slot }) _ less)
        ∙ slot_by (eqb (number - m.first) j) (record { footprint = (standing_of m number).footprint; slot = slot }) (standing_at m.standings j)

pub footprints_with : (m : Machine) (number : ℕ) (slot : Slot (List ℕ))
    → map (λ (s : Standing). s.footprint) (set m.standings (number - m.first) (record { footprint = (standing_of m number).footprint; slot = slot })) ≡ map (λ (s : Standing). s.footprint) m.standings
footprints_with m number slot = map-set_same (λ (s : Standing). s.footprint) m.standings (number - m.first) (record { footprint = (standing_of m number).footprint; slot = slot }) _ refl

pub footprint_there : (xs : List Standing) (k : ℕ) → footprint_at (map (λ (s : Standing). s.footprint) xs) k ≡ (standing_at xs k).footprint
footprint_there [] k = refl
footprint_there (x ∷ xs) zero = refl
footprint_there (x ∷ xs) (suc k) = footprint_there xs k

-- What is not refused ----------------------------------------------------------------------------------------------------------

pub both : (a b : Bool) → (a && b) ≡ true → (a ≡ true) × (b ≡ true)
both true b is = (refl, is)
both false b is = absurd (true≢false (sym is))

pub neither : (a b : Bool) → (a || b) ≡ false → (a ≡ false) × (b ≡ false)
neither true b is = absurd (true≢false is)
neither false b is = (refl, is)

three : (a b c : Bool) (x y z : CoreError) → cond (not a) (Some x) (cond (not b) (Some y) (cond c (Some z) None)) ≡ None → (a ≡ true) × (b ≡ true) × (c ≡ false)
three true true false x y z is = (refl, refl, refl)
three true true true x y z is = absurd cc
three true false c x y z is = absurd cc
three false b c x y z is = absurd cc

two : (a b : Bool) (x y : CoreError) → cond (not a) (Some x) (cond (not b) (Some y) None) ≡ None → (a ≡ true) × (b ≡ true)
two true true x y is = (refl, refl)
two true false x y is = absurd cc
two false b x y is = absurd cc

pub within : (m : Machine) (number : ℕ) → has_call m number ≡ true → (m.first ≤ number) × (number - m.first < length m.standings)
within m number is = let parts = both _ _ is in (leb-true m.first number parts.0, ltb-true (number - m.first) (length m.standings) parts.1)

waiting_is : (slot : Slot (List ℕ)) → is_waiting slot ≡ true → slot ≡ waiting
waiting_is waiting is = refl
waiting_is (taken away) is = absurd (true≢false (sym is))
waiting_is (finished reply) is = absurd (true≢false (sym is))

taken_is : (slot : Slot (List ℕ)) → is_taken slot ≡ true → slot ≡ taken (away_in slot)
taken_is waiting is = absurd (true≢false (sym is))
taken_is (taken away) is = refl
taken_is (finished reply) is = absurd (true≢false (sym is))

-- a call of that number waits, and no earlier one holds it back
pub record CanTake (m : Machine) (number : ℕ) : Type 0 where
  pub from : m.first ≤ number
  pub there : number - m.first < length m.standings
  pub waits : (standing_of m number).slot ≡ waiting
  pub free : is_held (take (number - m.first) m.standings) (standing_of m number).footprint ≡ false

pub can_take : (m : Machine) (number : ℕ) → take_refusal m number ≡ None → CanTake m number
can_take m number none =
    let parts = three (has_call m number) (is_waiting (standing_of m number).slot) (is_held (take (number - m.first) m.standings) (standing_of m number).footprint) _ _ _ none in
    let place = within m number parts.0 in
    record { from = place.0; there = place.1; waits = waiting_is (standing_of m number).slot parts.1; free = parts.2 }

-- a call of that number is under way
pub record CanFinish (m : Machine) (number : ℕ) : Type 0 where
  pub from : m.first ≤ number
  pub there : number - m.first < length m.standings
  pub away : (standing_of m number).slot ≡ taken (away_in (standing_of m number).slot)

pub can_finish : (m : Machine) (number : ℕ) → finish_refusal m number ≡ None → CanFinish m number
can_finish m number none =
    let parts = two (has_call m number) (is_taken (standing_of m number).slot) _ _ none in
    let place = within m number parts.0 in
    record { from = place.0; there = place.1; away = taken_is (standing_of m number).slot parts.1 }

undone : (d c : Bool) → (not d && c) ≡ false → d ≡ false → c ≡ false
undone true c is no' = absurd (true≢false no')
undone false c is no' = is

pub not_held : (xs : List Standing) (k : ℕ) (f : Footprint) → is_held (take k xs) f ≡ false → (j : ℕ) → j < k → j < length xs → is_done (standing_at xs j).slot ≡ false → conflict (standing_at xs j).footprint f ≡ false
not_held [] k f none j below less is = absurd (omega arith)
not_held (x ∷ xs) zero f none j below less is = absurd (omega arith)
not_held (x ∷ xs) (suc k) f none zero below less is = undone (is_done x.slot) (conflict x.footprint f) (neither (holds_back x f) (is_held (take k xs) f) none).0 is
not_held (x ∷ xs) (suc k) f none (suc j) below less is = not_held xs k f (neither (holds_back x f) (is_held (take k xs) f) none).1 j (omega arith) (omega arith) is
