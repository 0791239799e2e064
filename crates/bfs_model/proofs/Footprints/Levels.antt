-- Level after level: the calls of a level are taken, each is carried out on inodes of its own, and they are finished in any order.
use Rattle.std.proofs.Common.{◌≡◌, ℕ, ◌<◌, true, false, List, [], ◌∷◌, map, refl, sym, ap, subst, ◌∙◌, eqb, eq-eqb, eqb-true, ne_eqb, ⊎_elim}
use Rattle.std.specs.List.{AllByRecursion}
use Rattle.std.proofs.lemmas.Bool.{cond-true, cond-false, cond_both, cases_Bool, both_ways, or_cases, or_parts}
use Rattle.bfs_model.specs.Server.Tree.{Inodes}
use Rattle.bfs_model.specs.Server.Footprints.{Footprint}
use Rattle.bfs_model.specs.Server.Conflicts.{among, AgreeOn, outcome_on}
use Rattle.bfs_model.specs.Server.Events.{Slot, taken, World, put_slot, MayBegin, took, ended, took_all, ended_all, AreDistinct, IsLevel, InLevels, state, start, IsComplete, IsInOrder}
use Rattle.bfs_model.proofs.Footprints.Shared.{all_both}
use Rattle.bfs_model.proofs.Footprints.Overtaking.{Kept, took_done, take_keeps, finish_keeps, ready, start_kept, complete}
use Rattle.bfs_model.proofs.Footprints.Turns.{is_taken, AllHome, none_away}

at_one : (P : ℕ → Type 0) (js : List ℕ) (k : ℕ) → AllByRecursion P js → among js k ≡ true → P k
at_one P [] k all is = absurd cc
at_one P (j ∷ js) k all is = ⊎_elim (λ same. subst P (eqb-true j k same) all.0) (at_one P js k all.1) (or_cases (eqb j k) (among js k) is)

-- of the numbers of jobs
numbered : {X : Type 0} (P : ℕ → Type 0) (jobs : List (ℕ × X)) → AllByRecursion P (map (λ job. job.0) jobs) → AllByRecursion (λ job. P job.0) jobs
numbered P [] all = tt
numbered P (job ∷ jobs) all = (all.0, numbered P jobs all.1)

turned : (j k : ℕ) → eqb j k ≡ false → eqb k j ≡ false
turned j k other = ne_eqb k j (λ same. both_ways _ other (eq-eqb j k (sym same)))

module _ {C R : Type 0} (run : C → Inodes → Inodes × R) (count : ℕ) (calls : ℕ → C) (plan : ℕ → Footprint) where
  -- each is taken
  abbrev IsTaken : World R → ℕ → Type 0
  IsTaken w j = (j < count) × ((away : Inodes) × (w.slots j ≡ taken away))

  abbrev May : World R → ℕ → Type 0
  May w j = MayBegin run count calls plan w j

  abbrev all_taken : World R → List ℕ → World R
  all_taken w js = took_all run count calls plan w js

  abbrev all_ended : World R → List (ℕ × Inodes) → World R
  all_ended w jobs = ended_all run count calls plan w jobs

  module _ (m : Inodes) (local : (k : ℕ) (others : Inodes) → k < count → AgreeOn (plan k) (state run count calls plan m k) others → run (calls k) others ≡ outcome_on (plan k) others (run (calls k) (state run count calls plan m k))) where
    abbrev IsKept : World R → Type 0
    IsKept w = Kept run count calls plan m local w

    -- one that may begin may do so when another was taken
    may_still : (w : World R) (kept : IsKept w) (j : ℕ) (begins : May w j) (k : ℕ) → eqb j k ≡ false → May w k → May (took run count calls plan w j) k
    may_still w kept j begins k other may = (
      may.0,
      cond-false (eqb j k) _ (w.slots k) other ∙ may.1,
      (λ i less undone. may.2 i less (sym (took_done run count calls plan m local w kept j begins.0 begins.1 begins.2 i) ∙ undone)),
    )

    taken_still : (w : World R) (j : ℕ) (slot : Slot R) (home : Inodes) (k : ℕ) → eqb j k ≡ false → IsTaken w k → IsTaken (record { home = home; slots = put_slot w.slots j slot }) k
    taken_still w j slot home k other is = (is.0, (is.1.0, cond-false (eqb j k) slot (w.slots k) other ∙ is.1.1))

    -- all that are taken stay taken while others are
    taken_all : (js : List ℕ) (w : World R) (k : ℕ) → AllByRecursion (λ j. eqb j k ≡ false) js → IsTaken w k → IsTaken (all_taken w js) k
    taken_all [] w k others is = is
    taken_all (j ∷ js) w k others is = taken_all js (took run count calls plan w j) k others.1 (taken_still w j _ (took run count calls plan w j).home k others.0 is)

    take_level : (js : List ℕ) (w : World R) → IsKept w → AreDistinct run count calls plan js → AllByRecursion (May w) js → IsKept (all_taken w js) × AllByRecursion (IsTaken (all_taken w js)) js
    take_level [] w kept distinct may = (kept, tt)
    take_level (j ∷ js) w kept distinct may =
        let next = took run count calls plan w j in
        let still = all_both (λ k. eqb j k ≡ false) (May w) (May next) (λ k other is. may_still w kept j may.0 k other is) js distinct.0 may.1 in
        let rest = take_level js next (take_keeps run count calls plan m local w kept j may.0.0 may.0.1 may.0.2) distinct.1 still in
        let here : IsTaken next j = (may.0.0, (_, cond-true (eqb j j) _ (w.slots j) (eq-eqb j j refl))) in
        (rest.0, (taken_all js next j (all_both (λ k. eqb j k ≡ false) (λ k. eqb j k ≡ false) (λ k. eqb k j ≡ false) (λ k other _. turned j k other) js distinct.0 distinct.0) here, rest.1))

    -- taken, and on inodes of its own that are, where it looks, what batch order has there
    abbrev IsJob : World R → ℕ × Inodes → Type 0
    IsJob w job = IsTaken w job.0 × AgreeOn (plan job.0) (state run count calls plan m job.0) job.1

    finish_level : (jobs : List (ℕ × Inodes)) (w : World R) → IsKept w → AreDistinct run count calls plan (map (λ job. job.0) jobs) → AllByRecursion (IsJob w) jobs → IsKept (all_ended w jobs)
    finish_level [] w kept distinct all = kept
    finish_level (job ∷ jobs) w kept distinct all =
        let next = ended run count calls plan w job.0 job.1 in
        let still : AllByRecursion (IsJob next) jobs =
        all_both (λ other. eqb job.0 other.0 ≡ false) (IsJob w) (IsJob next) (λ other differs is. (taken_still w job.0 _ next.home other.0 differs is.0, is.1)) jobs (numbered (λ k. eqb job.0 k ≡ false) jobs distinct.0) all.1 in
        finish_level jobs next (finish_keeps run count calls plan m local w kept job.0 all.0.0.0 all.0.0.1.0 all.0.0.1.1 job.1 all.0.1) distinct.1 still

    -- what is away comes home
    took_other : (js : List ℕ) (w : World R) (x : ℕ) → among js x ≡ false → (all_taken w js).slots x ≡ w.slots x
    took_other [] w x none = refl
    took_other (j ∷ js) w x none =
        let parts = or_parts (eqb j x) (among js x) none in
        took_other js (took run count calls plan w j) x parts.1 ∙ cond-false (eqb j x) _ (w.slots x) parts.0

    stays_home : (jobs : List (ℕ × Inodes)) (w : World R) (x : ℕ) → is_taken (w.slots x) ≡ false → is_taken ((all_ended w jobs).slots x) ≡ false
    stays_home [] w x home = home
    stays_home (job ∷ jobs) w x home = stays_home jobs (ended run count calls plan w job.0 job.1) x (cond_both (eqb job.0 x) _ (w.slots x) (λ slot. is_taken slot ≡ false) (λ is. refl) (λ is. home))

    comes_home : (jobs : List (ℕ × Inodes)) (w : World R) (x : ℕ) → among (map (λ job. job.0) jobs) x ≡ true → is_taken ((all_ended w jobs).slots x) ≡ false
    comes_home [] w x is = absurd cc
    comes_home (job ∷ jobs) w x is =
        let next = ended run count calls plan w job.0 job.1 in
        ⊎_elim (λ same. stays_home jobs next x (ap is_taken (cond-true (eqb job.0 x) _ (w.slots x) same))) (comes_home jobs next x) (or_cases (eqb job.0 x) _ is)

    all_home : (w : World R) (level : List ℕ) (jobs : List (ℕ × Inodes)) → AllHome w.slots → AllByRecursion (λ i. among (map (λ job. job.0) jobs) i ≡ true) level → AllHome (all_ended (all_taken w level) jobs).slots
    all_home w level jobs home within x = ⊎_elim
        (λ is. comes_home jobs (all_taken w level) x (at_one (λ k. among (map (λ job. job.0) jobs) k ≡ true) level x within is))
        (λ none. stays_home jobs (all_taken w level) x (ap is_taken (took_other level w x none) ∙ home x))
        (cases_Bool (among level x))

    module _ (w : World R) (kept : IsKept w) (home : AllHome w.slots) (level : List ℕ) (may : AllByRecursion (May w) level) (taken_all_of_it : AllByRecursion (IsTaken (all_taken w level)) level) where
      -- each job is on what batch order has where its call looks
      are_jobs : (jobs : List (ℕ × Inodes)) → AllByRecursion (λ job. (among level job.0 ≡ true) × AgreeOn (plan job.0) w.home job.1) jobs → AllByRecursion (IsJob (all_taken w level)) jobs
      are_jobs [] all = tt
      are_jobs (job ∷ jobs) all =
          let begins : May w job.0 = at_one (May w) level job.0 may all.0.0 in (
            (
              at_one (IsTaken (all_taken w level)) level job.0 taken_all_of_it all.0.0,
              (λ id touched. all.0.1 id touched ∙ ready run count calls plan m local w kept job.0 begins.0 begins.1 begins.2 (λ j away less is. none_away w.slots home j away is) id touched),
            ),
            are_jobs jobs all.1,
          )

    level_keeps : (w : World R) → IsKept w → AllHome w.slots → (level : List ℕ) (jobs : List (ℕ × Inodes)) → IsLevel run count calls plan w level jobs → IsKept (all_ended (all_taken w level) jobs)
    level_keeps w kept home level jobs is =
        let begun = take_level level w kept is.0 is.1 in
        finish_level jobs (all_taken w level) begun.0 is.2 (are_jobs w kept home level is.1 begun.1 jobs is.4)

    levels_keep : (levels : List (List ℕ × List (ℕ × Inodes))) (w last : World R) → IsKept w → AllHome w.slots → InLevels run count calls plan w levels last → IsKept last
    levels_keep [] w last kept home all = subst IsKept (sym all) kept
    levels_keep (level ∷ levels) w last kept home all =
        levels_keep levels (all_ended (all_taken w level.0) level.1) last (level_keeps w kept home level.0 level.1 all.0) (all_home w level.0 level.1 home all.0.3) all.1

    pub in_levels : (levels : List (List ℕ × List (ℕ × Inodes))) (last : World R) → InLevels run count calls plan (start run count calls plan m) levels last → IsComplete run count calls plan last → IsInOrder run count calls plan m last
    in_levels levels last all done = complete run count calls plan m local last (levels_keep levels (start run count calls plan m) last (start_kept run count calls plan m local) (λ i. refl) all) done
