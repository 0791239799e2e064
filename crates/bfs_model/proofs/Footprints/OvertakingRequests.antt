-- Requests of a group may overtake each other, and each that waits keeps the footprint that it had at the group's start.
use Rattle.std.proofs.Common.{◌≡◌, ℕ, zero, suc, ◌<◌, inl, inr, true, false, List, [], ◌∷◌, length, map, refl, sym, ap, subst, ◌∙◌, ⊎_elim, arith}
use Rattle.std.specs.List.{AllByRecursion}
use Rattle.std.proofs.lemmas.Bool.{both_ways, cases_eq, cases_order}
use Rattle.bfs_model.specs.Server.Tree.{Time, Inodes}
use Rattle.bfs_model.specs.Server.Serial.{ordinal_after, answer, inodes_after, replies_to}
use Rattle.bfs_model.specs.Server.WellFormed.{IsTree}
use Rattle.bfs_model.specs.Server.Footprints.{Footprint, IsFreshFor, footprint_of}
use Rattle.bfs_model.specs.Server.Conflicts.{among, is_written, is_touched, resolved_of, AgreeOn, put_back, outcome_on}
use Rattle.bfs_model.specs.Server.Shares.{moved_for}
use Rattle.bfs_model.specs.Server.Groups.{footprints_at, footprints_in_order, IsCut}
use Rattle.bfs_model.specs.Server.Events.{Slot, waiting, taken, finished, is_done, World, Event, IsInOrder, state, carried_out, InTurn}
use Rattle.bfs_model.specs.Laws.Overtaking.{Asked, answered, asked_at, footprint_at, slots_of, plan, calls, at_first, EventsLead, TurnsLead, LevelsLead, AllAreDone, MayBeTaken, HasItsFootprint, IsAsInOrder, RequestsOvertake, DisjointRequestsOvertake, LegalOrdersAreAsTheBatch, LevelsAreAsTheBatch, FootprintsHold, WaitingFootprintsHold}
use Rattle.bfs_model.proofs.Kept.{IsServable, servable, fresh_for_request, answer_keeps}
use Rattle.bfs_model.proofs.Footprints.Apart.{apart, turned}
use Rattle.bfs_model.proofs.Footprints.Stable.{new_in}
use Rattle.bfs_model.proofs.Footprints.Requests.{requests_keep_to_footprints, request_footprints_agree, request_footprints_stay, requests_keep_trees, resolved_is_touched_by_requests}
use Rattle.bfs_model.proofs.Footprints.Grouped.{groups_keep_footprints, runs_keep_footprints}
use Rattle.bfs_model.proofs.Footprints.Overtaking.{Kept, is_waiting, slot_here, slot_other, steps_keep, start_kept, ready, handed, overtaking}
use Rattle.bfs_model.proofs.Footprints.Turns.{AllHome, agrees, turn_keeps, still_home, in_turn}
use Rattle.bfs_model.proofs.Footprints.Levels.{in_levels}

module _ (n : ℕ) (plan : ℕ → Footprint) where
  abbrev stand : (ℕ → Asked) → Inodes → ℕ → Inodes
  stand calls m k = state answered n calls plan m k

  -- the inodes at a place, from the first call on
  pub shifted : (calls : ℕ → Asked) (m : Inodes) (k : ℕ) → stand calls m (suc k) ≡ stand (λ j. calls (suc j)) (answered (calls 0) m).0 k
  shifted calls m zero = refl
  shifted calls m (suc k) = ap (λ n. (answered (calls (suc k)) n).0) (shifted calls m k)

  at_end : (m : Inodes) (o : ℕ) (t : Time) (requests : List (List ℕ)) → stand (asked_at o t requests) m (length requests) ≡ inodes_after m o t requests
  at_end m o t [] = refl
  at_end m o t (request ∷ requests) = shifted (asked_at o t (request ∷ requests)) m (length requests) ∙ at_end (answer m o t request).0 (ordinal_after o 1) t requests

  own_there : (m : Inodes) (o : ℕ) (t : Time) (requests : List (List ℕ)) (k : ℕ) → k < length requests
      → footprint_of (stand (asked_at o t requests) m k) (asked_at o t requests k).ordinal (asked_at o t requests k).time (asked_at o t requests k).bytes ≡ footprint_at (footprints_in_order m o t requests) k
  own_there m o t [] k less = absurd (omega arith)
  own_there m o t (request ∷ requests) zero less = refl
  own_there m o t (request ∷ requests) (suc k) less =
      ap (λ n. footprint_of n (asked_at (ordinal_after o 1) t requests k).ordinal (asked_at (ordinal_after o 1) t requests k).time (asked_at (ordinal_after o 1) t requests k).bytes) (shifted (asked_at o t (request ∷ requests)) m k)
      ∙ own_there (answer m o t request).0 (ordinal_after o 1) t requests k (omega arith)

  replies_there : (m : Inodes) (o : ℕ) (t : Time) (requests : List (List ℕ)) (slots : ℕ → Slot (List ℕ))
      → ((i : ℕ) → i < length requests → slots i ≡ finished (answered (asked_at o t requests i) (stand (asked_at o t requests) m i)).1)
      → slots_of (length requests) slots ≡ map finished (replies_to m o t requests)
  replies_there m o t [] slots each = refl
  replies_there m o t (request ∷ requests) slots each =
      λ i. each 0 (omega arith) i ∷ replies_there (answer m o t request).0 (ordinal_after o 1) t requests (λ k. slots (suc k))
      (λ k less. each (suc k) (omega arith) ∙ ap (λ n. finished (answered (asked_at (ordinal_after o 1) t requests k) n).1) (shifted (asked_at o t (request ∷ requests)) m k)) i

-- At its place in the batch --------------------------------------------------------------------------------------------------

-- the inodes at a place of the batch serve its request
servable_there : (n : ℕ) (feet : ℕ → Footprint) (m : Inodes) (o : ℕ) (t : Time) (requests : List (List ℕ)) (k : ℕ) → IsServable m o → k < length requests
    → IsServable (state answered n (asked_at o t requests) feet m k) (asked_at o t requests k).ordinal
servable_there n feet m o t [] k good less = absurd (omega arith)
servable_there n feet m o t (request ∷ requests) zero good less = good
servable_there n feet m o t (request ∷ requests) (suc k) good less =
    subst (λ after. IsServable after (asked_at (ordinal_after o 1) t requests k).ordinal) (sym (shifted n feet (asked_at o t (request ∷ requests)) m k))
    (servable_there n feet (answer m o t request).0 (ordinal_after o 1) t requests k (answer_keeps m o t request good) (omega arith))

-- a directory in which a later request of a group resolves names is not written
behind_there : (f : Footprint) (o : ℕ) (t : Time) (requests : List (List ℕ)) (j : ℕ) → AllByRecursion (λ request. (id : ℕ) → among (resolved_of request) id ≡ true → is_written f id ≡ false) requests → j < length requests
    → (id : ℕ) → among (resolved_of (asked_at o t requests j).bytes) id ≡ true → is_written f id ≡ false
behind_there f o t [] j all less = absurd (omega arith)
behind_there f o t (request ∷ requests) zero all less = all.0
behind_there f o t (request ∷ requests) (suc j) all less = behind_there f (ordinal_after o 1) t requests j all.1 (omega arith)

cut_there : (fs : List Footprint) (o : ℕ) (t : Time) (requests : List (List ℕ)) (i j : ℕ) → IsCut fs requests → i < j → j < length requests
    → (id : ℕ) → among (resolved_of (asked_at o t requests j).bytes) id ≡ true → is_written (footprint_at fs i) id ≡ false
cut_there [] o t requests i j cut later less id is = refl
cut_there (f ∷ fs) o t [] i j cut later less id is = absurd (omega arith)
cut_there (f ∷ fs) o t (request ∷ requests) i zero cut later less id is = absurd (omega arith)
cut_there (f ∷ fs) o t (request ∷ requests) zero (suc j) cut later less id is = behind_there f (ordinal_after o 1) t requests j cut.0 (omega arith) id is
cut_there (f ∷ fs) o t (request ∷ requests) (suc i) (suc j) cut later less id is = cut_there fs (ordinal_after o 1) t requests i j cut.1 (omega arith) (omega arith) id is

fresh_seen : (m others : Inodes) (o : ℕ) (f : Footprint) → AgreeOn f m others → IsFreshFor m o f → IsFreshFor others o f
fresh_seen m others o f agree (inl spent) = inl spent
fresh_seen m others o f agree (inr new) = inr (new_in o m others f agree new)

module _ (m : Inodes) (o : ℕ) (t : Time) (requests : List (List ℕ)) (own : footprints_in_order m o t requests ≡ footprints_at m o t requests) where
  abbrev many : ℕ
  many = length requests

  abbrev asked : ℕ → Asked
  asked = calls m o t requests

  abbrev feet_at : ℕ → Footprint
  feet_at = plan m o t requests

  abbrev there : ℕ → Inodes
  there k = state answered many asked feet_at m k

  -- each has the footprint found at first at its own place in the batch
  pub its_own : (k : ℕ) → k < many → HasItsFootprint m o t requests (there k) k
  its_own k less = own_there many feet_at m o t requests k less ∙ ap (λ fs. footprint_at fs k) own

  pub local : (k : ℕ) (others : Inodes) → k < many → AgreeOn (feet_at k) (there k) others → answered (asked k) others ≡ outcome_on (feet_at k) others (answered (asked k) (there k))
  local k others less =
      subst (λ f. AgreeOn f (there k) others → answered (asked k) others ≡ outcome_on f others (answered (asked k) (there k))) (its_own k less)
      (requests_keep_to_footprints (there k) others (asked k).ordinal (asked k).time (asked k).bytes)

  as_in_order : (last : World (List ℕ)) → IsInOrder answered many asked feet_at m last → IsAsInOrder m o t requests last
  as_in_order last done = (done.0 ∙ at_end many feet_at m o t requests, replies_there many feet_at m o t requests last.slots done.1)

  events_done : (events : List Event) (last : World (List ℕ)) → EventsLead m o t requests events last → AllAreDone m o t requests last → IsAsInOrder m o t requests last
  events_done events last lead all = as_in_order last (overtaking answered many asked feet_at m local events last lead all)

  turns_done : (order : List ℕ) (last : World (List ℕ)) → TurnsLead m o t requests order last → AllAreDone m o t requests last → IsAsInOrder m o t requests last
  turns_done order last lead all = as_in_order last (in_turn answered many asked feet_at m local order last lead all)

  levels_done : (levels : List (List ℕ × List (ℕ × Inodes))) (last : World (List ℕ)) → LevelsLead m o t requests levels last → AllAreDone m o t requests last → IsAsInOrder m o t requests last
  levels_done levels last lead all = as_in_order last (in_levels answered many asked feet_at m local levels last lead all)

  -- a footprint holds wherever what it touches is the same
  pub holds_on : (k : ℕ) (others : Inodes) → k < many → AgreeOn (feet_at k) (there k) others → HasItsFootprint m o t requests others k
  holds_on k others less agree =
      request_footprints_agree (there k) others (asked k).ordinal (asked k).time (asked k).bytes (subst (λ f. AgreeOn f (there k) others) (sym (its_own k less)) agree) ∙ its_own k less

  events_hold : (events : List Event) (world : World (List ℕ)) → EventsLead m o t requests events world → (i : ℕ) → i < many
      → (MayBeTaken m o t requests world i → ((j : ℕ) (away : Inodes) → j < many → world.slots j ≡ taken away → ⊥) → HasItsFootprint m o t requests world.home i)
      × ((away : Inodes) → world.slots i ≡ taken away → HasItsFootprint m o t requests (put_back (moved_for (feet_at i)) away world.home) i)
  events_hold events world lead i less =
      let kept = steps_keep answered many asked feet_at m local events (at_first m o t requests) world (start_kept answered many asked feet_at m local) lead in (
        (λ may none. holds_on i world.home less (ready answered many asked feet_at m local world kept i less may.1 may.2 none)),
        (λ away is. holds_on i (put_back (moved_for (feet_at i)) away world.home) less (handed answered many asked feet_at m local world kept i less away is)),
      )

  -- In a group each request that still waits has the footprint that it had at the start ---------------------------------------

  module _ (good : IsServable m o) (cut : IsCut (footprints_at m o t requests) requests) where
    record AreWaiting (w : World (List ℕ)) : Type 0 where
      kept : Kept answered many asked feet_at m local w
      home : AllHome w.slots
      tree : IsTree w.home
      waits : (j : ℕ) → j < many → w.slots j ≡ waiting → HasItsFootprint m o t requests w.home j

    module _ (w : World (List ℕ)) (are : AreWaiting w) (i : ℕ) (may : MayBeTaken m o t requests w i) where
      abbrev after : World (List ℕ)
      after = carried_out answered many asked feet_at w i

      its : HasItsFootprint m o t requests w.home i
      its = are.waits i may.0 may.1

      -- its ordinal is fresh there
      fresh : IsFreshFor w.home (asked i).ordinal (footprint_of w.home (asked i).ordinal (asked i).time (asked i).bytes)
      fresh =
          let at_its_place = subst (IsFreshFor (there i) (asked i).ordinal) (its_own i may.0)
          (fresh_for_request (there i) (asked i).ordinal (asked i).time (asked i).bytes (servable_there many feet_at m o t requests i good may.0)) in
          subst (IsFreshFor w.home (asked i).ordinal) (sym its)
          (fresh_seen (there i) w.home (asked i).ordinal (feet_at i) (agrees answered many asked feet_at m local w are.kept are.home i may) at_its_place)

      -- it writes no directory in which one that still waits resolves names
      leaves : (j : ℕ) → j < many → (i ≡ j → ⊥) → w.slots j ≡ waiting → (id : ℕ) → among (resolved_of (asked j).bytes) id ≡ true → is_written (feet_at i) id ≡ false
      leaves j less other waits id is = ⊎_elim
          (λ same. absurd (other same))
          (⊎_elim (λ later. cut_there (footprints_at m o t requests) o t requests i j cut later less id is) (λ earlier.
          turned (is_written (feet_at i) id) (is_touched (feet_at j) id) ((apart (feet_at j) (feet_at i) (may.2 j earlier (ap is_done waits))).second id)
          (subst (λ f. is_touched f id ≡ true) (are.waits j less waits) (resolved_is_touched_by_requests w.home (asked j).ordinal (asked j).time (asked j).bytes id is))))
          (cases_order i j)

      still_waits : (j : ℕ) → j < many → after.slots j ≡ waiting → HasItsFootprint m o t requests after.home j
      still_waits j less is = elim (cases_eq i j) [
        | inl same ↦ absurd (both_ways _ (ap is_waiting (slot_here w.slots i (finished (answered (asked i) w.home).1))) (subst (λ k. is_waiting (after.slots k) ≡ true) (sym same) (ap is_waiting is)))
        | inr other ↦
            let was : w.slots j ≡ waiting = sym (slot_other w.slots i (finished (answered (asked i) w.home).1) j other) ∙ is in
            request_footprints_stay w.home (asked i).ordinal (asked i).time (asked i).bytes (asked j).ordinal (asked j).time (asked j).bytes are.tree fresh
            (λ id resolved. ap (λ f. is_written f id) its ∙ leaves j less other was id resolved) ∙ are.waits j less was
      ]

      still_are : AreWaiting after
      still_are = record {
        kept = turn_keeps answered many asked feet_at m local w are.kept are.home i may;
        home = still_home answered many asked feet_at m local w are.kept are.home i may;
        tree = requests_keep_trees w.home (asked i).ordinal (asked i).time (asked i).bytes are.tree fresh;
        waits = still_waits;
      }

    turns_wait : (order : List ℕ) (w last : World (List ℕ)) → AreWaiting w → InTurn answered many asked feet_at w order last → AreWaiting last
    turns_wait [] w last are turns = subst AreWaiting (sym turns) are
    turns_wait (i ∷ order) w last are turns = turns_wait order (after w are i turns.0) last (still_are w are i turns.0) turns.1

    -- at the start all have the footprints found there
    at_start : (p : ℕ) (rest : List (List ℕ)) (k : ℕ) → k < length rest
        → footprint_of m (asked_at p t rest k).ordinal (asked_at p t rest k).time (asked_at p t rest k).bytes ≡ footprint_at (footprints_at m p t rest) k
    at_start p [] k less = absurd (omega arith)
    at_start p (request ∷ rest) zero less = refl
    at_start p (request ∷ rest) (suc k) less = at_start (ordinal_after p 1) rest k (omega arith)

    all_wait : AreWaiting (at_first m o t requests)
    all_wait = record {
      kept = start_kept answered many asked feet_at m local;
      home = λ j. refl;
      tree = good.tree.tree;
      waits = λ j less is. at_start o requests j less;
    }

-- The laws -------------------------------------------------------------------------------------------------------------------

pub requests_overtake : RequestsOvertake
requests_overtake files t requests group = events_done files.tree files.next_ordinal t requests (groups_keep_footprints files t requests group.0 group.1)

pub disjoint_requests_overtake : DisjointRequestsOvertake
disjoint_requests_overtake m o t requests disjoint = events_done m o t requests (runs_keep_footprints m o t requests disjoint)

pub legal_orders : LegalOrdersAreAsTheBatch
legal_orders files t requests group = turns_done files.tree files.next_ordinal t requests (groups_keep_footprints files t requests group.0 group.1)

pub levels_follow : LevelsAreAsTheBatch
levels_follow files t requests group = levels_done files.tree files.next_ordinal t requests (groups_keep_footprints files t requests group.0 group.1)

pub footprints_hold : FootprintsHold
footprints_hold files t requests group = events_hold files.tree files.next_ordinal t requests (groups_keep_footprints files t requests group.0 group.1)

pub waiting_footprints_hold : WaitingFootprintsHold
waiting_footprints_hold files t requests group order world lead =
    let own = groups_keep_footprints files t requests group.0 group.1 in
    let good = servable files group.0 in
    (turns_wait files.tree files.next_ordinal t requests own good group.1 order (at_first files.tree files.next_ordinal t requests) world (all_wait files.tree files.next_ordinal t requests own good group.1) lead).waits
