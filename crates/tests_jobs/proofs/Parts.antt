-- The requests of a run may be split off, all of them.
use Rattle.std.proofs.Common.{◌≡◌, ℕ, zero, suc, ◌+◌, ◌-◌, ◌<◌, ◌≤◌, Bool, true, false, ◌||◌, true≢false, List, [], ◌∷◌, length, map, get_or, refl, ap, sym, subst, ◌∙◌, arith}
use Rattle.std.specs.Prelude.{All}
use Rattle.std.specs.List.{list_any, range_with_len}
use Rattle.std.specs.List.Sorted.{IsStrictlyIncreasing}
use Rattle.std.proofs.lemmas.List.{length-map}
use Rattle.std.proofs.lemmas.List.Elements.{All-from_get_or}
use Rattle.std.proofs.lemmas.List.FromFn.{fill_by_all, length-range_with_len, get_or-range_with_len}
use Rattle.bfs_model.specs.Server.Tree.{Time}
use Rattle.bfs_model.specs.Server.Serial.{ordinal_after}
use Rattle.bfs_model.specs.Server.Footprints.{Footprint, known}
use Rattle.bfs_model.specs.Server.Conflicts.{is_whole}
use Rattle.bfs_model.specs.Server.Groups.{AreDisjoint}
use Rattle.bfs_model.specs.Server.WellFormed.{IsWellFormed}
use Rattle.bfs_model.specs.Laws.Overtaking.{footprint_at}
use Rattle.bfs_model.proofs.Public.{fresh_where_numbered, numbered_older}
use Rattle.bfs_serial.specs.Parts.{file_system_of}
use Rattle.bfs_tree.specs.Slots.{Slots}
use Rattle.bfs_tree.specs.Tree.{at_home}
use Rattle.bfs_footprint.specs.Seen.{footprint_seen}
use Rattle.bfs_footprint.specs.declared.footprints.Footprint as declared
use Rattle.bfs_levels.specs.Planning.{run_length}
use Rattle.bfs_levels.proofs.Public.{runs_are_longest}
use Rattle.bfs_handover.specs.Splitting.{CanBeSplit, IsFoundOn, IsSplit, PlannedPart, footprint_for, footprints_for, part_of}
use Rattle.bfs_handover.specs.declared.job.Job.{Job}
use Rattle.bfs_handover.proofs.Public.{found}
use Rattle.tests_jobs.specs.Split.{AreSplit, IsRun}

-- Numbers from 0 on ----------------------------------------------------------------------------------------------------------

each_number : (P : ℕ → Type 0) (n : ℕ) → ((k : ℕ) → k < n → P k) → All P (range_with_len 0 n)
each_number P n each =
    All-from_get_or P (range_with_len 0 n) 0 (λ k less.
    let below : k < n = subst (λ l. k < l) (length-range_with_len 0 n) less in
    subst P (let same : k ≡ 0 + k = omega arith in same ∙ sym (get_or-range_with_len 0 n k 0 below)) (each k below))

numbers_rise : (n : ℕ) → IsStrictlyIncreasing (range_with_len 0 n)
numbers_rise n k less =
    let long = length-range_with_len 0 n in
    let here = get_or-range_with_len 0 n k 0 (omega arith) in
    let next = get_or-range_with_len 0 n (k + 1) 0 (omega arith) in omega arith

place_is : (footprints : List Footprint) (k : ℕ) → get_or footprints k (known [] []) ≡ footprint_at footprints k
place_is [] k = refl
place_is (footprint ∷ footprints) zero = refl
place_is (footprint ∷ footprints) (suc k) = place_is footprints k

known_at : (items : List declared.Footprint) → list_any (λ item. is_whole (footprint_seen item)) items ≡ false → (k : ℕ) → is_whole (footprint_at (map footprint_seen items) k) ≡ false
known_at [] none k = refl
known_at (item ∷ items) none k = by_test (is_whole (footprint_seen item)) refl none (known_at items) k
  where
    by_test : (b : Bool) → is_whole (footprint_seen item) ≡ b → (b || list_any (λ item. is_whole (footprint_seen item)) items) ≡ false
        → (list_any (λ item. is_whole (footprint_seen item)) items ≡ false → (k : ℕ) → is_whole (footprint_at (map footprint_seen items) k) ≡ false) → (k : ℕ) → is_whole (footprint_at (map footprint_seen (item ∷ items)) k) ≡ false
    by_test true is none later k = absurd (true≢false none)
    by_test false is none later zero = is
    by_test false is none later (suc k) = later none k

-- A run ----------------------------------------------------------------------------------------------------------------------

module _ (tree : Slots) (ordinal : ℕ) (time : Time) (requests : List (List ℕ)) (items : List declared.Footprint) (run : IsRun (at_home tree) ordinal time requests items) where
  abbrev footprints : List Footprint
  footprints = map footprint_seen items

  abbrev part : PlannedPart
  part = part_of 0 ordinal time requests footprints

  abbrev numbers : List ℕ
  numbers = range_with_len 0 (length items)

  long : length footprints ≡ length items
  long = length-map items footprint_seen

  pub apart : AreDisjoint (footprints_for part numbers)
  apart =
      let longest = run_length (at_home tree) ordinal time requests in
      let within : longest ≤ length requests = omega (arith, run.count, run.all) in
      let each = fill_by_all (footprint_for part) footprints (length items) (known [] []) long (λ k less.
      place_is footprints k ∙ ap (footprint_at footprints) (let same : k ≡ k - 0 = omega arith in same)) in
      subst AreDisjoint (sym run.longest ∙ each) ((runs_are_longest (at_home tree) ordinal time requests longest within).1 (omega arith))

  module _ (formed : IsWellFormed (file_system_of tree ordinal time)) where
    pub can_be_split : All (CanBeSplit (at_home tree) part) numbers
    can_be_split = each_number (CanBeSplit (at_home tree) part) (length items) (λ k less.
        let most = formed.ordinal.1 in record {
          from = omega arith;
          within = omega (arith, long, less);
          known = known_at items run.certain (k - 0);
          fresh = fresh_where_numbered (at_home tree) (ordinal_after ordinal (k - 0)) (footprint_for part k) (numbered_older (at_home tree) ordinal (ordinal_after ordinal (k - 0)) (omega (arith, most)) formed.numbered);
        })

    pub are_found : All (IsFoundOn (at_home tree) part) numbers
    are_found = each_number (IsFoundOn (at_home tree) part) (length items) (λ k less.
        found (at_home tree) time 0 ordinal (run_length (at_home tree) ordinal time requests) k requests footprints formed.ordinal.1 run.longest (omega arith) (omega (arith, long, less)))

  pub are_split : (new : Slots) (given : List ℕ) (jobs : List Job) → given ≡ numbers → IsSplit tree new part given jobs → AreSplit tree new given jobs
  are_split new given jobs is split =
      record { part = part; rising = subst IsStrictlyIncreasing (sym is) (numbers_rise (length items)); apart = subst (λ ns. AreDisjoint (footprints_for part ns)) (sym is) apart; split = split }
