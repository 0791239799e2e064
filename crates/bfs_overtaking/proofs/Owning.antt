-- What the calls of the code have, before an event and after it.
use Rattle.std.proofs.Common.{◌≡◌, ℕ, zero, suc, ◌-◌, ◌<◌, Bool, true, false, not, ◌||◌, true≢false, List, [], ◌∷◌, length, map, set, Option, Some, None, is_some, option_map, refl, ap, sym, subst, ◌∙◌, arith, inl, inr}
use Rattle.std.specs.List.{All, list_any, slice_get}
use Rattle.std.specs.FinMap.{get}
use Rattle.std.proofs.lemmas.Bool.{cases_eq, or_left, or_right}
use Rattle.std.proofs.lemmas.List.{length-map}
use Rattle.std.proofs.lemmas.Option.{get_or_from_slice_get, slice_get-map, slice_get_within}
use Rattle.bfs_model.specs.Server.Footprints.{Footprint, known, whole}
use Rattle.bfs_model.specs.Server.Conflicts.{among, is_written, is_touched}
use Rattle.bfs_model.specs.Server.Shares.{moved_for}
use Rattle.bfs_model.specs.Server.Events.{waiting, is_done, is_begun}
use Rattle.bfs_model.proofs.Public.{moved_is_written, written_is_touched}
use Rattle.bfs_footprint.specs.Seen.{footprint_seen}
use Rattle.bfs_tree.specs.Slots.{Slots}
use Rattle.bfs_tree.specs.Tree.{lent}
use Rattle.bfs_handover.specs.Moves.{AreOwned}
use Rattle.bfs_overtaking.specs.declared.calls.Call.{Call}
use Rattle.bfs_overtaking.specs.declared.calls.State.{State}
use Rattle.bfs_overtaking.specs.declared.calls.State.TheVariants.{Waiting, Taken, Finished}
use Rattle.bfs_overtaking.specs.Machine.{Standing, Machine, standing_at, standing_of, take_refusal, finish_refusal}
use Rattle.bfs_overtaking.specs.Seen.{slot_seen, standing_seen}
use Rattle.bfs_overtaking.specs.Inside.Running.{lent_for, HasItsOwn, OwnsWritten, IsRunning}
use Rattle.bfs_overtaking.proofs.Standings.{CanTake, CanFinish, can_take, can_finish}
use Rattle.bfs_overtaking.proofs.Sharing.{others_leave, free_apart, begun_apart, many}

abbrev pub has : ℕ → Call → Bool
has id call = among (lent_for call.state) id

-- Lists ------------------------------------------------------------------------------------------------------------------------

module _ {X : Type 0} (p : X → Bool) where
  pub none_has : (xs : List X) → ((j : ℕ) (x : X) → slice_get xs j ≡ Some x → p x ≡ false) → list_any p xs ≡ false
  none_has [] each = refl
  none_has (x ∷ xs) each = ap (λ b. b || list_any p xs) (each 0 x refl) ∙ none_has xs (λ j y is. each (suc j) y is)

  turned : (a b c : Bool) → (a || (b || c)) ≡ (b || (a || c))
  turned true true c = refl
  turned true false c = refl
  turned false b c = refl

  -- one that did not pass is replaced
  pub any_more : (xs : List X) (i : ℕ) (x y : X) → slice_get xs i ≡ Some x → p x ≡ false → list_any p (set xs i y) ≡ (p y || list_any p xs)
  any_more [] i x y at misses = absurd cc
  any_more (z ∷ zs) zero x y at misses = ap (λ b. p y || b) (sym (ap (λ b. b || list_any p zs) (ap p (let same : z ≡ x = cc in same) ∙ misses)))
  any_more (z ∷ zs) (suc i) x y at misses = ap (λ b. p z || b) (any_more zs i x y at misses) ∙ turned (p z) (p y) (list_any p zs)

  -- one is replaced by one that does not pass
  pub any_kept : (xs : List X) (i : ℕ) (x y : X) → slice_get xs i ≡ Some x → p x ≡ false → p y ≡ false → list_any p (set xs i y) ≡ list_any p xs
  any_kept xs i x y at misses none = any_more xs i x y at misses ∙ ap (λ b. b || list_any p xs) none

  pub none_left : (xs : List X) (i : ℕ) (y : X) → p y ≡ false → ((j : ℕ) (x : X) → (i ≡ j → ⊥) → slice_get xs j ≡ Some x → p x ≡ false) → list_any p (set xs i y) ≡ false
  none_left [] i y none each = refl
  none_left (x ∷ xs) zero y none each = ap (λ b. b || list_any p xs) none ∙ none_has xs (λ j z is. each (suc j) z (λ e. omega arith) is)
  none_left (x ∷ xs) (suc i) y none each =
      ap (λ b. b || list_any p (set xs i y)) (each 0 x (λ e. omega arith) refl) ∙ none_left xs i y none (λ j z other is. each (suc j) z (λ e. other (let e' : suc i ≡ suc j = e in omega arith)) is)

  -- none but one passes, nor that one
  pub none_but : (xs : List X) (i : ℕ) (y : X) → slice_get xs i ≡ Some y → p y ≡ false → ((j : ℕ) (x : X) → (i ≡ j → ⊥) → slice_get xs j ≡ Some x → p x ≡ false) → list_any p xs ≡ false
  none_but xs i y at misses each = none_has xs (λ j x is. elim (cases_eq i j) [
    | inl same ↦ ap p (some_same x y (sym is ∙ ap (slice_get xs) (sym same) ∙ at)) ∙ misses
    | inr other ↦ each j x other is
  ])
    where
      some_same : (x y : X) → ◌≡◌ {A = Option X} (Some x) (Some y) → x ≡ y
      some_same x y e = cc

  pub any_there : (xs : List X) (i : ℕ) (y : X) → slice_get xs i ≡ Some y → p y ≡ true → list_any p xs ≡ true
  any_there [] i y at passes = absurd cc
  any_there (x ∷ xs) zero y at passes = or_left (p x) (list_any p xs) (ap p (let same : x ≡ y = cc in same) ∙ passes)
  any_there (x ∷ xs) (suc i) y at passes = or_right (p x) (list_any p xs) (any_there xs i y at passes)

pub standing_there : (calls : List Call) (j : ℕ) (call : Call) → slice_get calls j ≡ Some call → standing_at (map standing_seen calls) j ≡ standing_seen call
standing_there calls j call is = get_or_from_slice_get (map standing_seen calls) j (standing_seen call) _ (slice_get-map standing_seen calls j ∙ ap (option_map standing_seen) is)

pub owns_there : (calls : List Call) (j : ℕ) (call : Call) → All OwnsWritten calls → slice_get calls j ≡ Some call → OwnsWritten call
owns_there calls j call all is = subst OwnsWritten (get_or_from_slice_get calls j call call is) (all j call (slice_get_within calls j call is))

-- What a state tells -------------------------------------------------------------------------------------------------------------

-- only a call under way has anything
has_none : (f : Footprint) (s : State) (id : ℕ) → HasItsOwn f s → (is_done (slot_seen s) ≡ false → is_begun (slot_seen s) ≡ true → is_written f id ≡ false) → among (lent_for s) id ≡ false
has_none f Waiting id own misses = refl
has_none f (Taken loans) id own misses = own.1 id ∙ moved_is_written f id (misses refl refl)
has_none f (Finished reply) id own misses = refl

moved_written : (f : Footprint) (id : ℕ) → among (moved_for f) id ≡ true → is_written f id ≡ true
moved_written (known reads writes) id is = is
moved_written whole id is = refl

pub waiting_none : (s : State) → slot_seen s ≡ waiting → lent_for s ≡ []
waiting_none Waiting is = refl
waiting_none (Taken loans) is = absurd cc
waiting_none (Finished reply) is = refl

-- A core over its tree -----------------------------------------------------------------------------------------------------------

module _ (tree : Slots) (calls : List Call) (m : Machine) (run : IsRunning tree calls m) (seen : m.standings ≡ map standing_seen calls) where
  long : length m.standings ≡ length calls
  long = ap length seen ∙ length-map calls standing_seen

  stands : (j : ℕ) (call : Call) → slice_get calls j ≡ Some call → standing_at m.standings j ≡ standing_seen call
  stands j call is = ap (λ xs. standing_at xs j) seen ∙ standing_there calls j call is

  in_group : (j : ℕ) (call : Call) → slice_get calls j ≡ Some call → j < length m.requests
  in_group j call is = let less : j < length calls = slice_get_within calls j call is in let count = many m run.reached in omega (arith, long, count)

  pub not_out : (id : ℕ) → list_any (has id) calls ≡ false → is_some (get (lent tree) id) ≡ false
  not_out id none = run.out id ∙ none

  -- A call that is to be taken
  module _ (number : ℕ) (none : take_refusal m number ≡ None) where
    abbrev place : ℕ
    place = number - m.first

    can : CanTake m number
    can = can_take m number none

    small : place < length m.requests
    small = let less : place < length m.standings = can.there in let count = many m run.reached in omega arith

    no_other_has : (id : ℕ) → is_touched (standing_of m number).footprint id ≡ true → (j : ℕ) (call : Call) → slice_get calls j ≡ Some call → has id call ≡ false
    no_other_has id touched j call is =
        let at = stands j call is in
        has_none (footprint_seen call.footprint) call.state id (owns_there calls j call run.own is) (λ undone begun.
        subst (λ (s : Standing). is_written s.footprint id ≡ false) at
        (others_leave m run.reached place j
        (λ same. true≢false (sym begun ∙ ap is_begun (sym (ap (λ (s : Standing). s.slot) at) ∙ ap (λ k. (standing_at m.standings k).slot) (sym same) ∙ can.waits)))
        small (in_group j call is) (ap is_done can.waits) (free_apart m run.reached number can)
        (ap (λ (s : Standing). is_done s.slot) at ∙ undone) (ap (λ (s : Standing). is_begun s.slot) at ∙ begun) id touched))

    -- what it writes is at home
    pub owned : AreOwned tree (moved_for (standing_of m number).footprint)
    owned id is =
        ap not (not_out id (none_has (has id) calls (no_other_has id (written_is_touched (standing_of m number).footprint id (moved_written (standing_of m number).footprint id is)))))

  -- A call that is to be finished
  module _ (number : ℕ) (none : finish_refusal m number ≡ None) where
    abbrev its_place : ℕ
    its_place = number - m.first

    can_end : CanFinish m number
    can_end = can_finish m number none

    fits : its_place < length m.requests
    fits = let less : its_place < length m.standings = can_end.there in let count = many m run.reached in omega arith

    begun_here : is_begun (standing_at m.standings its_place).slot ≡ true
    begun_here = ap is_begun can_end.away

    -- no other call has what it touches
    pub others_lack : (id : ℕ) → is_touched (standing_of m number).footprint id ≡ true → (j : ℕ) (call : Call) → (its_place ≡ j → ⊥) → slice_get calls j ≡ Some call → has id call ≡ false
    others_lack id touched j call other is =
        let at = stands j call is in
        has_none (footprint_seen call.footprint) call.state id (owns_there calls j call run.own is) (λ undone begun.
        subst (λ (s : Standing). is_written s.footprint id ≡ false) at
        (others_leave m run.reached its_place j other fits (in_group j call is) (ap is_done can_end.away) (begun_apart m run.reached its_place fits begun_here)
        (ap (λ (s : Standing). is_done s.slot) at ∙ undone) (ap (λ (s : Standing). is_begun s.slot) at ∙ begun) id touched))
