-- What the calls under way have is out, and what another call touches is at home.
use Rattle.std.proofs.Common.{◌≡◌, ℕ, ◌-◌, ◌<◌, ◌≤◌, true, false, List, length, ap, subst, ◌∙◌, arith, inl, inr}
use Rattle.std.proofs.lemmas.Bool.{cases_order}
use Rattle.bfs_model.specs.Server.Tree.{Time, Inodes, spent_ordinal}
use Rattle.bfs_model.specs.Server.Footprints.{Footprint, IsFreshFor, footprint_of}
use Rattle.bfs_model.specs.Server.Conflicts.{is_written, is_touched, AgreeOn, put_back}
use Rattle.bfs_model.specs.Server.Shares.{moved_for}
use Rattle.bfs_model.specs.Server.Groups.{footprints_at, footprints_in_order}
use Rattle.bfs_model.specs.Server.Events.{is_done, is_begun, World, state}
use Rattle.bfs_model.specs.Laws.Overtaking.{Asked, answered, plan, calls, at_first}
use Rattle.bfs_model.proofs.Public.{AreApart, Kept, apart, fresh_for_request, groups_keep_footprints, handed, holds_on, its_own, local, servable, start_kept, steps_keep, turned}
use Rattle.bfs_levels.proofs.Public.{fresh_seen, servable_there}
use Rattle.bfs_overtaking.specs.Machine.{Machine, standing_at, standing_of, away_in}
use Rattle.bfs_overtaking.specs.Laws.Reached.{world_of, IsReached}
use Rattle.bfs_overtaking.proofs.Standings.{CanTake, CanFinish, not_held}
use Rattle.bfs_overtaking.proofs.Stepping.{own_plan, planned, as_many}

-- A machine that events of a group have led to
module _ (m : Machine) (r : IsReached m) where
  abbrev o : ℕ
  o = m.ordinal

  abbrev t : Time
  t = m.time

  abbrev requests : List (List ℕ)
  requests = m.requests

  abbrev own_order : footprints_in_order r.start o t requests ≡ footprints_at r.start o t requests
  own_order = groups_keep_footprints (record { tree = r.start; next_ordinal = o; last_time = t }) t requests r.group.0 r.group.1

  abbrev feet_at : ℕ → Footprint
  feet_at = plan r.start o t requests

  abbrev asked : ℕ → Asked
  asked = calls r.start o t requests

  abbrev there : ℕ → Inodes
  there k = state answered (length requests) asked feet_at r.start k

  abbrev KeptHere : World (List ℕ) → Type 0
  KeptHere w = Kept answered (length requests) asked feet_at r.start (local r.start o t requests own_order) w

  kept : KeptHere (world_of m)
  kept = steps_keep answered (length requests) asked feet_at r.start (local r.start o t requests own_order) r.events (at_first r.start o t requests) (world_of m)
      (start_kept answered (length requests) asked feet_at r.start (local r.start o t requests own_order)) r.lead

  pub many : length m.standings ≡ length requests
  many = as_many r.start m r.footprints

  foot : (k : ℕ) → feet_at k ≡ own_plan m k
  foot k = ap (λ p. p k) (planned r.start m r.footprints)

  -- a call apart from each earlier one that is not finished, and itself not finished: what it touches no other call under way writes
  pub others_leave : (i j : ℕ) → (i ≡ j → ⊥) → i < length requests → j < length requests → is_done (standing_at m.standings i).slot ≡ false
      → ((k : ℕ) → k < i → is_done (standing_at m.standings k).slot ≡ false → AreApart (own_plan m k) (own_plan m i))
      → is_done (standing_at m.standings j).slot ≡ false → is_begun (standing_at m.standings j).slot ≡ true
      → (id : ℕ) → is_touched (own_plan m i) id ≡ true → is_written (own_plan m j) id ≡ false
  others_leave i j other here there' undone before undone_too begun id touched = elim (cases_order i j) [
    | inl same ↦ absurd (other same)
    | inr apart_by ↦ elim apart_by [
      | inl later ↦
          let away : AreApart (own_plan m i) (own_plan m j) = subst (λ f. AreApart f (own_plan m j)) (foot i) (subst (AreApart (feet_at i)) (foot j) (kept.away_from i j later there' undone begun)) in
          turned (is_written (own_plan m j) id) (is_touched (own_plan m i) id) (away.second id) touched
      | inr earlier ↦ turned (is_written (own_plan m j) id) (is_touched (own_plan m i) id) ((before j earlier undone_too).first id) touched
    ]
  ]

  -- a call that can be taken is apart from each earlier one that is not finished
  pub free_apart : (number : ℕ) → CanTake m number → (k : ℕ) → k < number - m.first → is_done (standing_at m.standings k).slot ≡ false → AreApart (own_plan m k) (own_plan m (number - m.first))
  free_apart number can k below undone = let less : number - m.first < length m.standings = can.there in
      apart (own_plan m k) (own_plan m (number - m.first)) (not_held m.standings (number - m.first) (standing_of m number).footprint can.free k below (omega arith) undone)

  -- and so is one that is under way
  pub begun_apart : (i : ℕ) → i < length requests → is_begun (standing_at m.standings i).slot ≡ true → (k : ℕ) → k < i → is_done (standing_at m.standings k).slot ≡ false → AreApart (own_plan m k) (own_plan m i)
  begun_apart i less begun k below undone = subst (λ f. AreApart f (own_plan m i)) (foot k) (subst (AreApart (feet_at k)) (foot i) (kept.away_from k i below less undone begun))

  -- Of a call under way ------------------------------------------------------------------------------------------------------

  module _ (number : ℕ) (can : CanFinish m number) where
    abbrev place : ℕ
    place = number - m.first

    abbrev f : Footprint
    f = (standing_of m number).footprint

    -- what it is handed
    abbrev own : Inodes
    own = put_back (moved_for f) (away_in (standing_of m number).slot) m.home

    small : place < length requests
    small = let less : place < length m.standings = can.there in let count : length m.standings ≡ length requests = many in omega arith

    agrees : AgreeOn (feet_at place) (there place) own
    agrees = subst (λ g. AgreeOn (feet_at place) (there place) (put_back (moved_for g) (away_in (standing_of m number).slot) m.home)) (foot place)
        (handed answered (length requests) asked feet_at r.start (local r.start o t requests own_order) (world_of m) kept place small (away_in (standing_of m number).slot) can.away)

    -- it has its footprint there, and its ordinal is fresh
    pub touches : footprint_of own (asked place).ordinal (asked place).time (asked place).bytes ≡ f
    touches = holds_on r.start o t requests own_order place own small agrees ∙ foot place

    pub fresh : IsFreshFor own (asked place).ordinal f
    fresh =
        let at_first_there = fresh_for_request (there place) (asked place).ordinal (asked place).time (asked place).bytes
        (servable_there (length requests) feet_at r.start o t requests place (servable (record { tree = r.start; next_ordinal = o; last_time = t }) r.group.0) small) in
        subst (IsFreshFor own (asked place).ordinal) (foot place)
        (fresh_seen (there place) own (asked place).ordinal (feet_at place) agrees (subst (IsFreshFor (there place) (asked place).ordinal) (its_own r.start o t requests own_order place small) at_first_there))

    pub most : o ≤ spent_ordinal
    most = r.group.0.ordinal.1
