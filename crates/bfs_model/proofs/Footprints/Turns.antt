-- Calls that are carried out one after another in another order than that of the batch, each when it may begin.
use Rattle.std.proofs.Common.{◌≡◌, ℕ, ◌<◌, Bool, true, false, cond, not, List, [], ◌∷◌, None, refl, sym, ap, subst, ◌∙◌, eqb}
use Rattle.std.specs.FinMap.{get}
use Rattle.std.proofs.lemmas.Bool.{cond-false, cond_both, both_ways}
use Rattle.bfs_model.specs.Server.Tree.{Inodes}
use Rattle.bfs_model.specs.Server.Footprints.{Footprint}
use Rattle.bfs_model.specs.Server.Conflicts.{is_written, AgreeOn, closed, outcome_on}
use Rattle.bfs_model.specs.Server.Shares.{moved_for, without}
use Rattle.bfs_model.specs.Server.Events.{Slot, waiting, taken, finished, World, moved, state, took, ended, start, IsComplete, IsInOrder, MayBegin, carried_out, InTurn}
use Rattle.bfs_model.proofs.Footprints.Agreement.{same_inodes, get-closed}
use Rattle.bfs_model.proofs.Footprints.Shared.{get-without, moved_is_written}
use Rattle.bfs_model.proofs.Footprints.Overtaking.{Kept, slot_here, take_keeps, finish_keeps, ready, start_kept, complete}

abbrev pub is_taken : {R : Type 0} → Slot R → Bool
is_taken waiting = false
is_taken (taken away) = true
is_taken (finished reply) = false

-- nothing is away
abbrev pub AllHome : {R : Type 0} → (ℕ → Slot R) → Type 0
AllHome slots = (i : ℕ) → is_taken (slots i) ≡ false

pub none_away : {R : Type 0} (slots : ℕ → Slot R) → AllHome slots → (i : ℕ) (away : Inodes) → slots i ≡ taken away → ⊥
none_away slots home i away is = both_ways _ (home i) (ap is_taken is)

put_twice : {R : Type 0} (b : Bool) (one two other : Slot R) → cond b two (cond b one other) ≡ cond b two other
put_twice true one two other = refl
put_twice false one two other = refl

module _ {C R : Type 0} (run : C → Inodes → Inodes × R) (count : ℕ) (calls : ℕ → C) (plan : ℕ → Footprint) (m : Inodes)
    (local : (k : ℕ) (others : Inodes) → k < count → AgreeOn (plan k) (state run count calls plan m k) others → run (calls k) others ≡ outcome_on (plan k) others (run (calls k) (state run count calls plan m k))) where
  abbrev IsKept : World R → Type 0
  IsKept w = Kept run count calls plan m local w

  abbrev after : World R → ℕ → World R
  after w i = carried_out run count calls plan w i

  module _ (w : World R) (kept : IsKept w) (home : AllHome w.slots) (i : ℕ) (may : MayBegin run count calls plan w i) where
    pub agrees : AgreeOn (plan i) (state run count calls plan m i) w.home
    agrees = ready run count calls plan m local w kept i may.0 may.1 may.2 (λ j away less is. none_away w.slots home j away is)

    -- what is not written stays
    left : (x : ℕ) → is_written (plan i) x ≡ false → get (run (calls i) w.home).0 x ≡ get w.home x
    left x misses = ap (λ outcome. get outcome.0 x) (local i w.home may.0 agrees) ∙ get-closed (plan i) (run (calls i) (state run count calls plan m i)).0 w.home x ∙ cond-false (is_written (plan i) x) _ _ misses

    -- to carry it out is to take it, and to finish it on all inodes
    at_once : ended run count calls plan (took run count calls plan w i) i w.home ≡ after w i
    at_once =
        let home_same : closed (plan i) (run (calls i) w.home).0 (without (moved_for (plan i)) w.home) ≡ (run (calls i) w.home).0 = same_inodes _ _ (λ x.
        get-closed (plan i) (run (calls i) w.home).0 (without (moved_for (plan i)) w.home) x ∙ cond_both (is_written (plan i) x) _ _ (λ there. there ≡ get (run (calls i) w.home).0 x) (λ is. refl)
        (λ is. get-without (moved_for (plan i)) w.home x ∙ ap (λ b. cond (not b) (get w.home x) None) (moved_is_written (plan i) x is) ∙ sym (left x is))) in
        λ k. record { home = home_same k; slots = λ j. put_twice (eqb i j) (taken (moved (moved_for (plan i)) w.home)) (finished (run (calls i) w.home).1) (w.slots j) k }

    pub turn_keeps : IsKept (after w i)
    turn_keeps = subst IsKept at_once (finish_keeps run count calls plan m local (took run count calls plan w i) (take_keeps run count calls plan m local w kept i may.0 may.1 may.2) i may.0 _ (slot_here w.slots i _) w.home agrees)

    pub still_home : AllHome (after w i).slots
    still_home j = cond_both (eqb i j) (finished (run (calls i) w.home).1) (w.slots j) (λ slot. is_taken slot ≡ false) (λ is. refl) (λ is. home j)

  pub turns_keep : (order : List ℕ) (w last : World R) → IsKept w → AllHome w.slots → InTurn run count calls plan w order last → IsKept last
  turns_keep [] w last kept home turns = subst IsKept (sym turns) kept
  turns_keep (i ∷ order) w last kept home turns = turns_keep order (after w i) last (turn_keeps w kept home i turns.0) (still_home w kept home i turns.0) turns.1

  pub in_turn : (order : List ℕ) (last : World R) → InTurn run count calls plan (start run count calls plan m) order last → IsComplete run count calls plan last → IsInOrder run count calls plan m last
  in_turn order last turns all = complete run count calls plan m local last (turns_keep order (start run count calls plan m) last (start_kept run count calls plan m local) (λ i. refl) turns) all
