-- Calls that overtake each other leave what batch order leaves, and reply the same.
use Rattle.std.proofs.Common.{◌≡◌, ℕ, zero, suc, ◌<◌, ◌≤◌, inl, inr, Bool, true, false, cond, not, List, [], ◌∷◌, Option, None, refl, sym, ap, subst, ◌∙◌, eqb, eq-eqb, ne_eqb, ⊎_elim, arith}
use Rattle.std.specs.FinMap.{get, empty, get-retain_keys, nat_cmp-IsAntisymmetric}
use Rattle.std.proofs.lemmas.Bool.{cond-true, cond-false, cases_eq, cases_lt, cases_order, cases_Bool, both_ways, true_from_ne_false, false_from_ne_true}
use Rattle.bfs_model.specs.Server.Tree.{Inode, Inodes}
use Rattle.bfs_model.specs.Server.Footprints.{Footprint, known, whole}
use Rattle.bfs_model.specs.Server.Conflicts.{among, is_written, is_touched, AgreeOn, put_back, closed, outcome_on}
use Rattle.bfs_model.specs.Server.Shares.{moved_for, without}
use Rattle.bfs_model.specs.Server.Events.{Slot, waiting, taken, finished, is_done, is_begun, World, put_slot, Event, Take, Finish, moved, state, IsFree, took, ended, Step, Steps, start, IsComplete, IsInOrder}
use Rattle.bfs_model.proofs.Footprints.Agreement.{same_inodes, get-closed, get-put_back, written_is_touched}
use Rattle.bfs_model.proofs.Footprints.Apart.{AreApart, apart, turned}
use Rattle.bfs_model.proofs.Footprints.Shared.{get-without, moved_is_written}

get-moved : (ids : List ℕ) (m : Inodes) (id : ℕ) → get (moved ids m) id ≡ cond (among ids id) (get m id) None
get-moved ids m id = get-retain_keys m (among ids) id (λ x tied. ap (among ids) (sym (nat_cmp-IsAntisymmetric id x tied)))

moved_to_written : (f : Footprint) (id : ℕ) → among (moved_for f) id ≡ true → is_written f id ≡ true
moved_to_written (known reads writes) id is = is
moved_to_written whole id is = refl

-- Slots ----------------------------------------------------------------------------------------------------------------------

module _ {R : Type 0} (slots : ℕ → Slot R) where
  pub slot_here : (i : ℕ) (s : Slot R) → put_slot slots i s i ≡ s
  slot_here i s = cond-true (eqb i i) s (slots i) (eq-eqb i i refl)

  pub slot_other : (i : ℕ) (s : Slot R) (j : ℕ) → (i ≡ j → ⊥) → put_slot slots i s j ≡ slots j
  slot_other i s j other = cond-false (eqb i j) s (slots j) (ne_eqb i j other)

abbrev away_in : {R : Type 0} → Slot R → Inodes
away_in waiting = empty
away_in (taken away) = away
away_in (finished reply) = empty

abbrev reply_in : {R : Type 0} → R → Slot R → R
reply_in none waiting = none
reply_in none (taken away) = none
reply_in none (finished reply) = reply

abbrev pub is_waiting : {R : Type 0} → Slot R → Bool
is_waiting waiting = true
is_waiting (taken away) = false
is_waiting (finished reply) = false

-- The invariant ---------------------------------------------------------------------------------------------------------------

module _ {C R : Type 0} (run : C → Inodes → Inodes × R) (count : ℕ) (calls : ℕ → C) (plan : ℕ → Footprint) (m : Inodes)
    (local : (k : ℕ) (others : Inodes) → k < count → AgreeOn (plan k) (state run count calls plan m k) others → run (calls k) others ≡ outcome_on (plan k) others (run (calls k) (state run count calls plan m k))) where
  abbrev pub At : ℕ → Inodes
  At k = state run count calls plan m k

  -- a value of a fileid is that of batch order, wherever all its earlier writers are finished and none of its later ones
  abbrev pub IsDue : (ℕ → Slot R) → ℕ → Option Inode → Type 0
  IsDue slots x there = (k : ℕ) → k ≤ count → ((j : ℕ) → j < k → is_written (plan j) x ≡ true → is_done (slots j) ≡ true)
      → ((j : ℕ) → k ≤ j → j < count → is_written (plan j) x ≡ true → is_done (slots j) ≡ false) → there ≡ get (At k) x

  pub record Kept (w : World R) : Type 0 where
    -- a call that has begun is apart from each earlier one that is not finished
    pub away_from : (i j : ℕ) → i < j → j < count → is_done (w.slots i) ≡ false → is_begun (w.slots j) ≡ true → AreApart (plan i) (plan j)
    pub at_home : (x : ℕ) → ((j : ℕ) (away : Inodes) → j < count → w.slots j ≡ taken away → among (moved_for (plan j)) x ≡ false) → IsDue w.slots x (get w.home x)
    pub out : (j : ℕ) (away : Inodes) → j < count → w.slots j ≡ taken away → (x : ℕ) → among (moved_for (plan j)) x ≡ true → IsDue w.slots x (get away x)
    pub told : (j : ℕ) (reply : R) → j < count → w.slots j ≡ finished reply → reply ≡ (run (calls j) (At j)).1

  due_same : (slots others : ℕ → Slot R) (x : ℕ) (there : Option Inode) → ((j : ℕ) → is_written (plan j) x ≡ true → is_done (others j) ≡ is_done (slots j)) → IsDue slots x there → IsDue others x there
  due_same slots others x there same due k most before behind = due k most (λ j less writes. sym (same j writes) ∙ before j less writes) (λ j least less writes. sym (same j writes) ∙ behind j least less writes)

  -- what a call does not write stays in batch order
  stays_at : (k x : ℕ) → k < count → is_written (plan k) x ≡ false → get (At (suc k)) x ≡ get (At k) x
  stays_at k x less is = ap (λ outcome. get outcome.0 x) (local k (At k) less (λ id touched. refl)) ∙ get-closed (plan k) (run (calls k) (At k)).0 (At k) x ∙ cond-false (is_written (plan k) x) _ _ is

  -- over several calls
  stays_to : (x i k : ℕ) → i ≤ k → k ≤ count → ((j : ℕ) → i ≤ j → j < k → is_written (plan j) x ≡ false) → get (At k) x ≡ get (At i) x
  stays_to x i zero le most none = ap (λ q. get (At q) x) (let same : zero ≡ i = omega arith in same)
  stays_to x i (suc k) le most none = ⊎_elim
      (λ is. ap (λ q. get (At q) x) (sym is))
      (λ other. stays_at k x (omega arith) (none k (omega arith) (omega arith)) ∙ stays_to x i k (omega arith) (omega arith) (λ j least less. none j least (omega arith)))
      (cases_eq i (suc k))

  begun_of_done : (slot : Slot R) → is_done slot ≡ true → is_begun slot ≡ true
  begun_of_done waiting is = absurd cc
  begun_of_done (taken away) is = absurd cc
  begun_of_done (finished reply) is = refl

  -- A call that is not finished, and apart from each earlier one that is not
  module _ (w : World R) (kept : Kept w) (i : ℕ) (less : i < count) (undone : is_done (w.slots i) ≡ false) (before : (j : ℕ) → j < i → is_done (w.slots j) ≡ false → AreApart (plan j) (plan i)) where
    -- what is due where it looks is what batch order has there
    value_at : (x : ℕ) (there : Option Inode) → is_touched (plan i) x ≡ true → IsDue w.slots x there → there ≡ get (At i) x
    value_at x there touched due = due i (omega arith)
        (λ j under writes. true_from_ne_false _ (λ is. both_ways _ ((before j under is).first x writes) touched))
        (λ j least below writes. ⊎_elim
        (λ is. subst (λ q. is_done (w.slots q) ≡ false) is undone)
        (λ other. false_from_ne_true _ (λ is. both_ways _ ((kept.away_from i j (omega arith) below undone (begun_of_done (w.slots j) is)).second x writes) touched))
        (cases_eq i j))

    -- no other call that is under way writes where it looks
    others_leave : (j : ℕ) (away : Inodes) → (i ≡ j → ⊥) → j < count → w.slots j ≡ taken away → (x : ℕ) → is_touched (plan i) x ≡ true → is_written (plan j) x ≡ false
    others_leave j away other below its x touched = turned _ _
        (⊎_elim (λ is. absurd (other is)) (⊎_elim (λ later. (kept.away_from i j later below undone (ap is_begun its)).second x) (λ earlier. (before j earlier (ap is_done its)).first x)) (cases_order i j))
        touched

  -- A call is taken ------------------------------------------------------------------------------------------------------

  module _ (w : World R) (kept : Kept w) (i : ℕ) (less : i < count) (is : w.slots i ≡ waiting) (free : IsFree run count calls plan w.slots i) where
    abbrev ids : List ℕ
    ids = moved_for (plan i)

    abbrev own_slot : Slot R
    own_slot = taken (moved ids w.home)

    abbrev then : ℕ → Slot R
    then = put_slot w.slots i own_slot

    not_it : (j : ℕ) (away : Inodes) → w.slots j ≡ taken away → i ≡ j → ⊥
    not_it j away its same = both_ways (is_waiting (w.slots j)) (ap is_waiting its) (sym (ap (λ q. is_waiting (w.slots q)) same) ∙ ap is_waiting is)

    pub took_done : (j : ℕ) → is_done (then j) ≡ is_done (w.slots j)
    took_done j = ⊎_elim
        (λ same. subst (λ q. is_done (then q) ≡ is_done (w.slots q)) same (ap is_done (slot_here w.slots i own_slot) ∙ sym (ap is_done is)))
        (λ other. ap is_done (slot_other w.slots i own_slot j other))
        (cases_eq i j)

    before_it : (j : ℕ) → j < i → is_done (w.slots j) ≡ false → AreApart (plan j) (plan i)
    before_it j under undone = apart (plan j) (plan i) (free j under undone)

    pub take_keeps : Kept (took run count calls plan w i)
    take_keeps = record {
      away_from = λ p q below last undone begun.
          let was : is_done (w.slots p) ≡ false = sym (took_done p) ∙ undone in
          elim (cases_eq i q) [
            | inl same ↦ subst (λ k. AreApart (plan p) (plan k)) same (before_it p (subst (λ k. p < k) (sym same) below) was)
            | inr other ↦ kept.away_from p q below last was (ap is_begun (sym (slot_other w.slots i own_slot q other)) ∙ begun)
          ];
      at_home = λ x none.
          let stayed : among ids x ≡ false = none i (moved ids w.home) less (slot_here w.slots i own_slot) in
          let value : get (without ids w.home) x ≡ get w.home x = get-without ids w.home x ∙ ap (λ b. cond (not b) (get w.home x) None) stayed in
          subst (IsDue then x) (sym value) (due_same w.slots then x (get w.home x) (λ j writes. took_done j)
          (kept.at_home x (λ j away last its. none j away last (slot_other w.slots i own_slot j (not_it j away its) ∙ its))));
      out = λ j away last its x goes. elim (cases_eq i j) [
        | inl same ↦
            let here : taken (moved ids w.home) ≡ taken away = sym (slot_here w.slots i own_slot) ∙ subst (λ q. then q ≡ taken away) (sym same) its in
            let goes_here : among ids x ≡ true = subst (λ q. among (moved_for (plan q)) x ≡ true) (sym same) goes in
            let value : get away x ≡ get w.home x = ap (λ n. get n x) (sym (ap away_in here)) ∙ get-moved ids w.home x ∙ cond-true (among ids x) (get w.home x) None goes_here in
            let touched : is_touched (plan i) x ≡ true = written_is_touched (plan i) x (moved_to_written (plan i) x goes_here) in
            subst (IsDue then x) (sym value) (due_same w.slots then x (get w.home x) (λ k writes. took_done k)
            (kept.at_home x (λ k gone under at. moved_is_written (plan k) x (others_leave w kept i less (ap is_done is) before_it k gone (not_it k gone at) under at x touched))))
        | inr other ↦ due_same w.slots then x (get away x) (λ k writes. took_done k) (kept.out j away last (sym (slot_other w.slots i own_slot j other) ∙ its) x goes)
      ];
      told = λ j reply last its. elim (cases_eq i j) [
        | inl same ↦ absurd (let here : taken (moved ids w.home) ≡ finished reply = sym (slot_here w.slots i own_slot) ∙ subst (λ q. then q ≡ finished reply) (sym same) its in let wrong : false ≡ true = ap is_done here in cc)
        | inr other ↦ kept.told j reply last (sym (slot_other w.slots i own_slot j other) ∙ its)
      ];
    }

  -- A call is finished ---------------------------------------------------------------------------------------------------

  -- what a call that was taken is handed is, where it looks, what batch order has there
  pub handed : (w : World R) (kept : Kept w) (i : ℕ) (less : i < count) (gone : Inodes) (is : w.slots i ≡ taken gone) → AgreeOn (plan i) (At i) (put_back (moved_for (plan i)) gone w.home)
  handed w kept i less gone is x touched =
      let before : (j : ℕ) → j < i → is_done (w.slots j) ≡ false → AreApart (plan j) (plan i) = λ j under undone. kept.away_from j i under less undone (ap is_begun is) in
      get-put_back (moved_for (plan i)) gone w.home x ∙ elim (cases_Bool (among (moved_for (plan i)) x)) [
        | inl goes ↦ cond-true (among (moved_for (plan i)) x) (get gone x) (get w.home x) goes ∙ value_at w kept i less (ap is_done is) before x (get gone x) touched (kept.out i gone less is x goes)
        | inr stayed ↦ cond-false (among (moved_for (plan i)) x) (get gone x) (get w.home x) stayed ∙ value_at w kept i less (ap is_done is) before x (get w.home x) touched
            (kept.at_home x (λ j away last its. elim (cases_eq i j) [
              | inl same ↦ subst (λ q. among (moved_for (plan q)) x ≡ false) same stayed
              | inr other ↦ moved_is_written (plan j) x (others_leave w kept i less (ap is_done is) before j away other last its x touched)
            ]))
      ]

  -- and so is what is at home for a call that may be taken, when nothing is away
  pub ready : (w : World R) (kept : Kept w) (i : ℕ) (less : i < count) → w.slots i ≡ waiting → IsFree run count calls plan w.slots i
      → ((j : ℕ) (away : Inodes) → j < count → w.slots j ≡ taken away → ⊥) → AgreeOn (plan i) (At i) w.home
  ready w kept i less is free none x touched =
      value_at w kept i less (ap is_done is) (λ j under undone. apart (plan j) (plan i) (free j under undone)) x (get w.home x) touched (kept.at_home x (λ j away last its. absurd (none j away last its)))

  module _ (w : World R) (kept : Kept w) (i : ℕ) (less : i < count) (gone : Inodes) (is : w.slots i ≡ taken gone) (own : Inodes) (seen : AgreeOn (plan i) (At i) own) where
    before_this : (j : ℕ) → j < i → is_done (w.slots j) ≡ false → AreApart (plan j) (plan i)
    before_this j under undone = kept.away_from j i under less undone (ap is_begun is)

    carried_out : run (calls i) own ≡ outcome_on (plan i) own (run (calls i) (At i))
    carried_out = local i own less seen

    abbrev done_slot : Slot R
    done_slot = finished (run (calls i) own).1

    abbrev afterwards : ℕ → Slot R
    afterwards = put_slot w.slots i done_slot

    it_is_done : is_done (afterwards i) ≡ true
    it_is_done = ap is_done (slot_here w.slots i done_slot)

    not_this : (j : ℕ) → is_done (afterwards j) ≡ false → i ≡ j → ⊥
    not_this j undone same = both_ways _ undone (subst (λ q. is_done (afterwards q) ≡ true) same it_is_done)

    finished_done : (x j : ℕ) → is_written (plan i) x ≡ false → is_written (plan j) x ≡ true → is_done (afterwards j) ≡ is_done (w.slots j)
    finished_done x j misses writes = ap is_done (slot_other w.slots i done_slot j (λ same. both_ways _ (subst (λ q. is_written (plan q) x ≡ false) same misses) writes))

    -- where it writes, it leaves what batch order has after it
    due_after : (x : ℕ) → is_written (plan i) x ≡ true → IsDue afterwards x (get (At (suc i)) x)
    due_after x writes k most ready behind = ⊎_elim
        (λ later. sym (stays_to x (suc i) k (omega arith) most (λ j least below. false_from_ne_true _ (λ also.
        let was : is_done (w.slots j) ≡ true = sym (ap is_done (slot_other w.slots i done_slot j (λ same. omega arith))) ∙ ready j below also in
        both_ways _ ((kept.away_from i j (omega arith) (omega arith) (ap is_done is) (begun_of_done (w.slots j) was)).first x writes) (written_is_touched (plan j) x also)))))
        (λ up_to. absurd (both_ways _ (behind i up_to less writes) it_is_done))
        (cases_lt i k)

    pub finish_keeps : Kept (ended run count calls plan w i own)
    finish_keeps = record {
      away_from = λ p q below last undone begun.
          let was : is_done (w.slots p) ≡ false = sym (ap is_done (slot_other w.slots i done_slot p (not_this p undone))) ∙ undone in
          elim (cases_eq i q) [
            | inl same ↦ subst (λ k. AreApart (plan p) (plan k)) same (before_this p (subst (λ k. p < k) (sym same) below) was)
            | inr other ↦ kept.away_from p q below last was (ap is_begun (sym (slot_other w.slots i done_slot q other)) ∙ begun)
          ];
      at_home = λ x none. elim (cases_Bool (is_written (plan i) x)) [
        | inl writes ↦
            let value : get (closed (plan i) (run (calls i) own).0 w.home) x ≡ get (At (suc i)) x =
            get-closed (plan i) (run (calls i) own).0 w.home x ∙ cond-true (is_written (plan i) x) (get (run (calls i) own).0 x) (get w.home x) writes
            ∙ ap (λ outcome. get outcome.0 x) carried_out ∙ get-closed (plan i) (run (calls i) (At i)).0 own x ∙ cond-true (is_written (plan i) x) (get (run (calls i) (At i)).0 x) (get own x) writes in
            subst (IsDue afterwards x) (sym value) (due_after x writes)
        | inr misses ↦
            let value : get (closed (plan i) (run (calls i) own).0 w.home) x ≡ get w.home x =
            get-closed (plan i) (run (calls i) own).0 w.home x ∙ cond-false (is_written (plan i) x) (get (run (calls i) own).0 x) (get w.home x) misses in
            subst (IsDue afterwards x) (sym value) (due_same w.slots afterwards x (get w.home x) (λ j writes. finished_done x j misses writes)
            (kept.at_home x (λ j away last its. elim (cases_eq i j) [
              | inl same ↦ subst (λ q. among (moved_for (plan q)) x ≡ false) same (moved_is_written (plan i) x misses)
              | inr other ↦ none j away last (slot_other w.slots i done_slot j other ∙ its)
            ])))
      ];
      out = λ j away last its x goes.
          let other : i ≡ j → ⊥ = not_this j (ap is_done its) in
          let was : w.slots j ≡ taken away = sym (slot_other w.slots i done_slot j other) ∙ its in
          let writes : is_written (plan j) x ≡ true = moved_to_written (plan j) x goes in
          let misses : is_written (plan i) x ≡ false =
          false_from_ne_true _ (λ also. both_ways _ (others_leave w kept i less (ap is_done is) before_this j away other last was x (written_is_touched (plan i) x also)) writes) in
          due_same w.slots afterwards x (get away x) (λ k also. finished_done x k misses also) (kept.out j away last was x goes);
      told = λ j reply last its. elim (cases_eq i j) [
        | inl same ↦
            let here : finished (run (calls i) own).1 ≡ finished reply = sym (slot_here w.slots i done_slot) ∙ subst (λ q. afterwards q ≡ finished reply) (sym same) its in
            subst (λ q. reply ≡ (run (calls q) (At q)).1) same (sym (ap (reply_in (run (calls i) own).1) here) ∙ ap (λ outcome. outcome.1) carried_out)
        | inr other ↦ kept.told j reply last (sym (slot_other w.slots i done_slot j other) ∙ its)
      ];
    }

  -- Lists of events --------------------------------------------------------------------------------------------------------

  step_keeps : (w : World R) (event : Event) (next : World R) → Kept w → Step run count calls plan w event next → Kept next
  step_keeps w (Take i) next kept step = subst Kept (sym step.1) (take_keeps w kept i step.0.0 step.0.1 step.0.2)
  step_keeps w (Finish i) next kept step = subst Kept (sym step.5) (finish_keeps w kept i step.2 step.0 step.3 step.1 (λ x touched. step.4 x touched ∙ handed w kept i step.2 step.0 step.3 x touched))

  pub steps_keep : (events : List Event) (w last : World R) → Kept w → Steps run count calls plan w events last → Kept last
  steps_keep [] w last kept steps = subst Kept (sym steps) kept
  steps_keep (event ∷ events) w last kept steps = steps_keep events steps.0 last (step_keeps w event steps.0 kept steps.1) steps.2

  pub start_kept : Kept (start run count calls plan m)
  start_kept = record {
    away_from = λ i j below last undone begun. absurd cc;
    at_home = λ x none k most before behind. sym (stays_to x 0 k (omega arith) most (λ j least below. false_from_ne_true _ (λ writes. both_ways false refl (before j below writes))));
    out = λ j away last its. absurd cc;
    told = λ j reply last its. absurd cc;
  }

  done_is : (slot : Slot R) (reply : R) → is_done slot ≡ true → ((told : R) → slot ≡ finished told → told ≡ reply) → slot ≡ finished reply
  done_is waiting reply is told = absurd cc
  done_is (taken away) reply is told = absurd cc
  done_is (finished other) reply is told = ap finished (told other refl)

  pub complete : (last : World R) → Kept last → IsComplete run count calls plan last → IsInOrder run count calls plan m last
  complete last kept all = (
    same_inodes last.home (At count) (λ x. kept.at_home x
        (λ j away under its. absurd (both_ways _ (ap is_done its) (all j under)))
        count (omega arith) (λ j under writes. all j under) (λ j least under writes. absurd (omega arith))),
    (λ i under. done_is (last.slots i) (run (calls i) (At i)).1 (all i under) (λ reply is. kept.told i reply under is)),
  )

  pub overtaking : (events : List Event) (last : World R) → Steps run count calls plan (start run count calls plan m) events last → IsComplete run count calls plan last → IsInOrder run count calls plan m last
  overtaking events last steps all = complete last (steps_keep events (start run count calls plan m) last start_kept steps) all
