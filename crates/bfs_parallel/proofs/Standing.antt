-- A group on its way: level after level its requests are carried out on inodes of their own, and stand as in the model's law on levels.
use Rattle.std.proofs.Common.{◌≡◌, ℕ, ◌<◌, ◌≤◌, Bool, true, false, cond, not, ◌||◌, List, [], ◌∷◌, ◌++◌, length, map, None, refl, ap, sym, subst, ◌∙◌, eqb, eq-eqb, eqb-true, ne_eqb, true≢false}
use Rattle.std.specs.List.{AllByRecursion}
use Rattle.std.specs.FinMap.{get}
use Rattle.std.proofs.lemmas.Bool.{cond-true, cond-false}
use Rattle.bfs_model.specs.Server.Tree.{Time, Inodes}
use Rattle.bfs_model.specs.Server.Limits.{most_reply_bytes}
use Rattle.bfs_model.specs.Server.Footprints.{Footprint, IsFreshFor}
use Rattle.bfs_model.specs.Server.Conflicts.{among, is_written, AgreeOn, closed, outcome_on}
use Rattle.bfs_model.specs.Server.Shares.{moved_for, all_moved}
use Rattle.bfs_model.specs.Server.Groups.{footprints_at, footprints_in_order}
use Rattle.bfs_model.specs.Server.Events.{Slot, taken, finished, is_done, World, moved, state, carried_out, took, ended, took_all, ended_all, AreDistinct, IsLevel, InLevels}
use Rattle.bfs_model.specs.Laws.Overtaking.{Asked, answered, plan, calls, at_first, MayBeTaken, HasItsFootprint, LevelsLead}
use Rattle.bfs_model.proofs.Public.{AllHome, IsServable, Kept, agrees, formed_again, fresh_for_request, get-closed, get-without, holds_on, its_own, local, moved_is_written, reply_is_short, same_inodes, start_kept, still_home, turn_keeps}
use Rattle.bfs_levels.proofs.Public.{fresh_seen, servable_there}
use Rattle.bfs_handover.proofs.Public.{among_both, none_among}

-- One put over another ------------------------------------------------------------------------------------------------------

cond_twice : {X : Type 0} (b : Bool) (p q r : X) → cond b (cond b p q) r ≡ cond b p r
cond_twice true p q r = refl
cond_twice false p q r = refl

closed_twice : (f : Footprint) (left own home : Inodes) → closed f (closed f left own) home ≡ closed f left home
closed_twice f left own home = same_inodes _ _ (λ x.
    get-closed f (closed f left own) home x
    ∙ ap (λ v. cond (is_written f x) v (get home x)) (get-closed f left own x)
    ∙ cond_twice (is_written f x) (get left x) (get own x) (get home x)
    ∙ sym (get-closed f left home x))

undone_before : {R : Type 0} (b : Bool) (reply : R) (slot : Slot R) → is_done (cond b (finished reply) slot) ≡ false → is_done slot ≡ false
undone_before true reply slot is = absurd (true≢false is)
undone_before false reply slot is = is

-- numbers that differ
abbrev pub Differ : List ℕ → Type 0
Differ [] = Unit {0}
Differ (k ∷ ks) = AllByRecursion (λ other. eqb k other ≡ false) ks × Differ ks

absent : (k : ℕ) (ks : List ℕ) → AllByRecursion (λ other. eqb k other ≡ false) ks → among ks k ≡ false
absent k [] all = refl
absent k (j ∷ ks) all = by_head (eqb j k) (ne_eqb j k (λ same. true≢false (sym (eq-eqb k j (sym same)) ∙ all.0))) (absent k ks all.1)
  where
    by_head : (b : Bool) → b ≡ false → among ks k ≡ false → (b || among ks k) ≡ false
    by_head true is rest = absurd (true≢false is)
    by_head false is rest = rest

module _ (m : Inodes) (o : ℕ) (t : Time) (requests : List (List ℕ)) (own : footprints_in_order m o t requests ≡ footprints_at m o t requests) where
  abbrev many : ℕ
  many = length requests

  abbrev asked : ℕ → Asked
  asked = calls m o t requests

  abbrev feet : ℕ → Footprint
  feet = plan m o t requests

  abbrev there : ℕ → Inodes
  there k = state answered many asked feet m k

  abbrev May : World (List ℕ) → ℕ → Type 0
  May w k = MayBeTaken m o t requests w k

  abbrev IsKept : World (List ℕ) → Type 0
  IsKept w = Kept answered many asked feet m (local m o t requests own) w

  abbrev next : World (List ℕ) → ℕ → World (List ℕ)
  next w k = carried_out answered many asked feet w k

  abbrev Levels : World (List ℕ) → List (List ℕ × List (ℕ × Inodes)) → World (List ℕ) → Type 0
  Levels w levels last = InLevels answered many asked feet w levels last

  -- the requests of a level are taken, and finished on inodes of their own
  abbrev taken_all : World (List ℕ) → List ℕ → World (List ℕ)
  taken_all w ks = took_all answered many asked feet w ks

  abbrev ended_too : World (List ℕ) → List (ℕ × Inodes) → World (List ℕ)
  ended_too w jobs = ended_all answered many asked feet w jobs

  levels_on : (levels : List (List ℕ × List (ℕ × Inodes))) (ks : List ℕ) (jobs : List (ℕ × Inodes)) (w mid : World (List ℕ)) → Levels w levels mid → IsLevel answered many asked feet mid ks jobs
      → Levels w (levels ++ (ks, jobs) ∷ []) (ended_too (taken_all mid ks) jobs)
  levels_on [] ks jobs w mid lead is = subst (λ x. Levels x ((ks, jobs) ∷ []) (ended_too (taken_all mid ks) jobs)) lead (is, refl)
  levels_on (level ∷ levels) ks jobs w mid lead is = (lead.0, levels_on levels ks jobs (ended_too (taken_all w level.0) level.1) mid lead.1 is)

  -- where the group stands: level after level was carried out, and the others wait
  pub record Stand (w : World (List ℕ)) : Type 0 where
    pub levels : List (List ℕ × List (ℕ × Inodes))
    pub lead : LevelsLead m o t requests levels w
    pub kept : IsKept w
    pub home : AllHome w.slots

  pub at_start : Stand (at_first m o t requests)
  at_start = record { levels = []; lead = refl; kept = start_kept answered many asked feet m (local m o t requests own); home = λ i. refl }

  -- A request whose turn has come -------------------------------------------------------------------------------------------

  module _ (w : World (List ℕ)) (stand : Stand w) (k : ℕ) (may : May w k) where
    -- it finds at home, where it looks, what batch order has there
    seen : AgreeOn (feet k) (there k) w.home
    seen = agrees answered many asked feet m (local m o t requests own) w stand.kept stand.home k may

    pub its_footprint : HasItsFootprint m o t requests w.home k
    its_footprint = holds_on m o t requests own k w.home may.0 seen

    pub its_ordinal_is_fresh : IsServable m o → IsFreshFor w.home (asked k).ordinal (feet k)
    its_ordinal_is_fresh good =
        fresh_seen (there k) w.home (asked k).ordinal (feet k) seen
        (subst (IsFreshFor (there k) (asked k).ordinal) (its_own m o t requests own k may.0)
        (fresh_for_request (there k) (asked k).ordinal (asked k).time (asked k).bytes (servable_there many feet m o t requests k good may.0)))

    pub seen_too : (others : Inodes) → AgreeOn (feet k) w.home others → AgreeOn (feet k) (there k) others
    seen_too others agree id touched = agree id touched ∙ seen id touched

  -- what a finished request tells is what it tells in batch order
  pub told_is_short : (w : World (List ℕ)) → Stand w → (k : ℕ) (reply : List ℕ) → IsServable m o → k < many → w.slots k ≡ finished reply → length reply ≤ most_reply_bytes
  told_is_short w stand k reply good less is =
      subst (λ text. length text ≤ most_reply_bytes) (sym (stand.kept.told k reply less is))
      (reply_is_short (there k) (answered (asked k) (there k)).0 (asked k).ordinal (asked k).time (asked k).bytes (answered (asked k) (there k)).1
      (formed_again (there k) (asked k).ordinal (asked k).time (servable_there many feet m o t requests k good less)) refl)

  -- Requests together ---------------------------------------------------------------------------------------------------------

  module _ (owns : ℕ → Inodes) where
    -- what they left where they write has come back
    abbrev pub back : List ℕ → Inodes → Inodes
    back [] left = left
    back (k ∷ ks) left = back ks (closed (feet k) (answered (asked k) (owns k)).0 left)

    abbrev pub told : ℕ → List ℕ
    told k = (answered (asked k) (owns k)).1

    -- what they write may have been moved away before
    pub same_back : (ks : List ℕ) (here away : Inodes) → ((id : ℕ) → among (all_moved (map feet ks)) id ≡ false → get here id ≡ get away id) → back ks here ≡ back ks away
    same_back [] here away same = same_inodes here away (λ id. same id refl)
    same_back (k ∷ ks) here away same =
        let left = (answered (asked k) (owns k)).0 in
        same_back ks (closed (feet k) left here) (closed (feet k) left away) (λ id free. get-closed (feet k) left here id ∙ by_test id (is_written (feet k) id) refl free ∙ sym (get-closed (feet k) left away id))
      where
        by_test : (id : ℕ) (b : Bool) → is_written (feet k) id ≡ b → among (all_moved (map feet ks)) id ≡ false
            → cond b (get (answered (asked k) (owns k)).0 id) (get here id) ≡ cond b (get (answered (asked k) (owns k)).0 id) (get away id)
        by_test id true is free = refl
        by_test id false is free = same id (none_among (moved_for (feet k)) (all_moved (map feet ks)) id (moved_is_written (feet k) id is) free)

    record After (w : World (List ℕ)) (ks : List ℕ) : Type 0 where
      world : World (List ℕ)
      kept : IsKept world
      home : AllHome world.slots
      at_home : world.home ≡ back ks w.home
      these : (k : ℕ) → among ks k ≡ true → world.slots k ≡ finished (told k)
      others : (k : ℕ) → among ks k ≡ false → world.slots k ≡ w.slots k

    abbrev IsItsOwn : ℕ → Type 0
    IsItsOwn k = AgreeOn (feet k) (there k) (owns k)

    module _ (w : World (List ℕ)) (kept : IsKept w) (home : AllHome w.slots) (k : ℕ) (may : May w k) (mine : IsItsOwn k) where
      abbrev at_home_now : answered (asked k) w.home ≡ outcome_on (feet k) w.home (answered (asked k) (there k))
      at_home_now = local m o t requests own k w.home may.0 (agrees answered many asked feet m (local m o t requests own) w kept home k may)

      abbrev on_its_own : answered (asked k) (owns k) ≡ outcome_on (feet k) (owns k) (answered (asked k) (there k))
      on_its_own = local m o t requests own k (owns k) may.0 mine

      same_reply : (answered (asked k) w.home).1 ≡ told k
      same_reply = ap (λ (end : Inodes × List ℕ). end.1) at_home_now ∙ sym (ap (λ (end : Inodes × List ℕ). end.1) on_its_own)

      same_left : (answered (asked k) w.home).0 ≡ closed (feet k) (answered (asked k) (owns k)).0 w.home
      same_left =
          ap (λ (end : Inodes × List ℕ). end.0) at_home_now
          ∙ sym (closed_twice (feet k) (answered (asked k) (there k)).0 (owns k) w.home)
          ∙ sym (ap (λ (end : Inodes × List ℕ). closed (feet k) end.0 w.home) on_its_own)

      may_still : (js : List ℕ) → AllByRecursion (λ j. eqb k j ≡ false) js → AllByRecursion (May w) js → AllByRecursion (May (next w k)) js
      may_still [] differ all = tt
      may_still (j ∷ js) differ all = (
        (
          all.0.0,
          cond-false (eqb k j) (finished (answered (asked k) w.home).1) (w.slots j) differ.0 ∙ all.0.1,
          (λ i less undone. all.0.2 i less (undone_before (eqb k i) (answered (asked k) w.home).1 (w.slots i) undone)),
        ),
        may_still js differ.1 all.1,
      )

    module _ (w : World (List ℕ)) (kept : IsKept w) (home : AllHome w.slots) (k : ℕ) (may : May w k) (mine : IsItsOwn k) (ks : List ℕ) (differ : AllByRecursion (λ other. eqb k other ≡ false) ks) (rest : After (next w k) ks) where
      this_by : (j : ℕ) (b : Bool) → eqb k j ≡ b → (b || among ks j) ≡ true → rest.world.slots j ≡ finished (told j)
      this_by j true same is = subst (λ i. rest.world.slots i ≡ finished (told i)) (eqb-true k j same)
          (rest.others k (absent k ks differ) ∙ cond-true (eqb k k) (finished (answered (asked k) w.home).1) (w.slots k) (eq-eqb k k refl) ∙ ap finished (same_reply w kept home k may mine))
      this_by j false same is = rest.these j is

      other_by : (j : ℕ) (b : Bool) → eqb k j ≡ b → (b || among ks j) ≡ false → rest.world.slots j ≡ w.slots j
      other_by j true same none = absurd (true≢false none)
      other_by j false same none = rest.others j none ∙ cond-false (eqb k j) (finished (answered (asked k) w.home).1) (w.slots j) same

      with_one : After w (k ∷ ks)
      with_one = record {
        world = rest.world;
        kept = rest.kept;
        home = rest.home;
        at_home = rest.at_home ∙ ap (back ks) (same_left w kept home k may mine);
        these = λ j is. this_by j (eqb k j) refl is;
        others = λ j none. other_by j (eqb k j) refl none;
      }

    after : (ks : List ℕ) (w : World (List ℕ)) → IsKept w → AllHome w.slots → Differ ks → AllByRecursion (May w) ks → AllByRecursion IsItsOwn ks → After w ks
    after [] w kept home differ may mine = record { world = w; kept = kept; home = home; at_home = refl; these = λ k is. absurd (true≢false (sym is)); others = λ k none. refl }
    after (k ∷ ks) w kept home differ may mine =
        with_one w kept home k may.0 mine.0 ks differ.0
        (after ks (next w k) (turn_keeps answered many asked feet m (local m o t requests own) w kept home k may.0) (still_home answered many asked feet m (local m o t requests own) w kept home k may.0)
        differ.1 (may_still w kept home k may.0 mine.0 ks differ.0 may.1) mine.1)

    -- requests that may all be carried out, each on inodes of its own that are those at home where it looks
    pub record Together (w : World (List ℕ)) (ks : List ℕ) : Type 0 where
      pub world : World (List ℕ)
      pub stand : Stand world
      pub at_home : world.home ≡ back ks w.home
      pub these : (k : ℕ) → among ks k ≡ true → world.slots k ≡ finished (told k)
      pub others : (k : ℕ) → among ks k ≡ false → world.slots k ≡ w.slots k

    its_owns : (w : World (List ℕ)) → Stand w → (ks : List ℕ) → AllByRecursion (May w) ks → AllByRecursion (λ k. AgreeOn (feet k) w.home (owns k)) ks → AllByRecursion IsItsOwn ks
    its_owns w stand [] may agree = tt
    its_owns w stand (k ∷ ks) may agree = (seen_too w stand k may.0 (owns k) agree.0, its_owns w stand ks may.1 agree.1)

    -- As a level: taken one after another, and finished one after another -----------------------------------------------------

    abbrev jobs_of : List ℕ → List (ℕ × Inodes)
    jobs_of ks = map (λ k. (k, owns k)) ks

    numbers_again : (ks : List ℕ) → map (λ (job : ℕ × Inodes). job.0) (jobs_of ks) ≡ ks
    numbers_again [] = refl
    numbers_again (k ∷ ks) = λ i. k ∷ numbers_again ks i

    all_among : (ks js : List ℕ) → ((j : ℕ) → among js j ≡ true → among ks j ≡ true) → AllByRecursion (λ j. among ks j ≡ true) js
    all_among ks [] within = tt
    all_among ks (j ∷ js) within = (within j (ap (λ b. b || among js j) (eq-eqb j j refl)), all_among ks js (λ i is. within i (behind i (eqb j i) is)))
      where
        behind : (i : ℕ) (b : Bool) → among js i ≡ true → (b || among js i) ≡ true
        behind i true is = refl
        behind i false is = is

    are_jobs : (w : World (List ℕ)) (ks js : List ℕ) → AllByRecursion (λ j. among ks j ≡ true) js → AllByRecursion (λ k. AgreeOn (feet k) w.home (owns k)) js
        → AllByRecursion (λ (job : ℕ × Inodes). (among ks job.0 ≡ true) × AgreeOn (feet job.0) w.home job.1) (jobs_of js)
    are_jobs w ks [] within agree = tt
    are_jobs w ks (j ∷ js) within agree = ((within.0, agree.0), are_jobs w ks js within.1 agree.1)

    distinct : (ks : List ℕ) → Differ ks → AreDistinct answered many asked feet ks
    distinct [] differ = tt
    distinct (k ∷ ks) differ = (differ.0, distinct ks differ.1)

    is_level : (w : World (List ℕ)) (ks : List ℕ) → Differ ks → AllByRecursion (May w) ks → AllByRecursion (λ k. AgreeOn (feet k) w.home (owns k)) ks → IsLevel answered many asked feet w ks (jobs_of ks)
    is_level w ks differ may agree =
        let within = all_among ks ks (λ j is. is) in (
          distinct ks differ,
          may,
          subst (λ js. AreDistinct answered many asked feet js) (sym (numbers_again ks)) (distinct ks differ),
          subst (λ js. AllByRecursion (λ j. among js j ≡ true) ks) (sym (numbers_again ks)) within,
          are_jobs w ks ks within agree,
        )

    ended_home : (ks : List ℕ) (w : World (List ℕ)) → (ended_too w (jobs_of ks)).home ≡ back ks w.home
    ended_home [] w = refl
    ended_home (k ∷ ks) w = ended_home ks (ended answered many asked feet w k (owns k))

    ended_slots : (ks : List ℕ) (w : World (List ℕ)) (j : ℕ) → (ended_too w (jobs_of ks)).slots j ≡ cond (among ks j) (finished (told j)) (w.slots j)
    ended_slots [] w j = refl
    ended_slots (k ∷ ks) w j = ended_slots ks (ended answered many asked feet w k (owns k)) j ∙ by_test (eqb k j) (among ks j) refl
      where
        by_test : (b rest : Bool) → eqb k j ≡ b → cond rest (finished (told j)) (cond b (finished (told k)) (w.slots j)) ≡ cond (b || rest) (finished (told j)) (w.slots j)
        by_test true true same = refl
        by_test true false same = ap (λ i. finished (told i)) (eqb-true k j same)
        by_test false rest same = refl

    split_none : (xs ys : List ℕ) (id : ℕ) → among (xs ++ ys) id ≡ false → (among xs id ≡ false) × (among ys id ≡ false)
    split_none xs ys id none = by_test (among xs id) (sym (among_both xs ys id) ∙ none)
      where
        by_test : (b : Bool) → (b || among ys id) ≡ false → (b ≡ false) × (among ys id ≡ false)
        by_test true is = absurd (true≢false is)
        by_test false is = (refl, is)

    taken_home : (ks : List ℕ) (w : World (List ℕ)) (id : ℕ) → among (all_moved (map feet ks)) id ≡ false → get (taken_all w ks).home id ≡ get w.home id
    taken_home [] w id free = refl
    taken_home (k ∷ ks) w id free =
        let parts = split_none (moved_for (feet k)) (all_moved (map feet ks)) id free in
        taken_home ks (took answered many asked feet w k) id parts.1 ∙ get-without (moved_for (feet k)) w.home id ∙ ap (λ b. cond (not b) (get w.home id) None) parts.0

    taken_slots : (ks : List ℕ) (w : World (List ℕ)) (j : ℕ) → among ks j ≡ false → (taken_all w ks).slots j ≡ w.slots j
    taken_slots [] w j none = refl
    taken_slots (k ∷ ks) w j none = by_test (eqb k j) refl none (taken_slots ks (took answered many asked feet w k) j)
      where
        by_test : (b : Bool) → eqb k j ≡ b → (b || among ks j) ≡ false → (among ks j ≡ false → (taken_all (took answered many asked feet w k) ks).slots j ≡ (took answered many asked feet w k).slots j)
            → (taken_all (took answered many asked feet w k) ks).slots j ≡ w.slots j
        by_test true same is later = absurd (true≢false is)
        by_test false same is later = later is ∙ cond-false (eqb k j) (taken (moved (moved_for (feet k)) w.home)) (w.slots j) same

    -- which leaves what one after another does
    same_world : (w : World (List ℕ)) (ks : List ℕ) (done : After w ks) → ended_too (taken_all w ks) (jobs_of ks) ≡ done.world
    same_world w ks done = λ i. record { home = home_same i; slots = λ j. slot_same j (among ks j) refl i }
      where
        home_same : (ended_too (taken_all w ks) (jobs_of ks)).home ≡ done.world.home
        home_same = ended_home ks (taken_all w ks) ∙ same_back ks (taken_all w ks).home w.home (taken_home ks w) ∙ sym done.at_home

        slot_same : (j : ℕ) (b : Bool) → among ks j ≡ b → (ended_too (taken_all w ks) (jobs_of ks)).slots j ≡ done.world.slots j
        slot_same j true is = ended_slots ks (taken_all w ks) j ∙ cond-true (among ks j) (finished (told j)) ((taken_all w ks).slots j) is ∙ sym (done.these j is)
        slot_same j false is = ended_slots ks (taken_all w ks) j ∙ cond-false (among ks j) (finished (told j)) ((taken_all w ks).slots j) is ∙ taken_slots ks w j is ∙ sym (done.others j is)

    pub together : (w : World (List ℕ)) → Stand w → (ks : List ℕ) → Differ ks → AllByRecursion (May w) ks → AllByRecursion (λ k. AgreeOn (feet k) w.home (owns k)) ks → Together w ks
    together w stand ks differ may agree =
        let done = after ks w stand.kept stand.home differ may (its_owns w stand ks may agree) in record {
          world = done.world;
          stand = record {
            levels = stand.levels ++ (ks, jobs_of ks) ∷ [];
            lead = subst (LevelsLead m o t requests (stand.levels ++ (ks, jobs_of ks) ∷ [])) (same_world w ks done) (levels_on stand.levels ks (jobs_of ks) (at_first m o t requests) w stand.lead (is_level w ks differ may agree));
            kept = done.kept;
            home = done.home;
          };
          at_home = done.at_home;
          these = done.these;
          others = done.others;
        }
