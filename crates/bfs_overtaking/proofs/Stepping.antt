-- What an event makes of the machine is a step of the overtaking law.
use Rattle.std.proofs.Common.{◌≡◌, ℕ, zero, suc, ◌-◌, ◌<◌, true, List, [], ◌∷◌, ◌++◌, length, map, Option, Some, None, Result, Ok, refl, ap, sym, subst, ◌∙◌, arith}
use Rattle.std.specs.List.{list_all}
use Rattle.std.proofs.lemmas.List.{length-map}
use Rattle.bfs_model.specs.Server.Tree.{Time, Inodes}
use Rattle.bfs_model.specs.Server.Serial.{ordinal_after}
use Rattle.bfs_model.specs.Server.Footprints.{Footprint}
use Rattle.bfs_model.specs.Server.Conflicts.{put_back}
use Rattle.bfs_model.specs.Server.Shares.{moved_for}
use Rattle.bfs_model.specs.Server.Groups.{footprints_at}
use Rattle.bfs_model.specs.Server.Events.{Slot, waiting, taken, finished, is_done, World, MayBegin, took, ended, Step, Steps}
use Rattle.bfs_model.specs.Server.Events as model
use Rattle.bfs_model.specs.Laws.Overtaking.{Asked, answered, asked_at, footprint_at, plan, calls, at_first, IsGroup, slots_of}
use Rattle.bfs_model.proofs.Public.{requests_overtake}
use Rattle.bfs_overtaking.specs.declared.errors.CoreError.{CoreError}
use Rattle.bfs_overtaking.specs.declared.events.Event.{Event}
use Rattle.bfs_overtaking.specs.declared.events.Event.TheVariants.{Take, Finish}
use Rattle.bfs_overtaking.specs.Machine.{Standing, Machine, at_start, standing_at, standing_of, away_in, take_refusal, finish_refusal, after_take, after_finish, unless, on_ok, played}
use Rattle.bfs_overtaking.specs.Laws.Reached.{world_of, event_at, IsReached}
use Rattle.bfs_overtaking.specs.Laws.Overtaking.{EventsAreSteps, EventsOvertake}
use Rattle.bfs_overtaking.proofs.Standings.{world_with, footprints_with, footprint_there, CanTake, can_take, CanFinish, can_finish, not_held, both}

abbrev pub feet_of : Machine → List Footprint
feet_of m = map (λ (s : Standing). s.footprint) m.standings

length-footprints_at : (inodes : Inodes) (o : ℕ) (t : Time) (requests : List (List ℕ)) → length (footprints_at inodes o t requests) ≡ length requests
length-footprints_at inodes o t [] = refl
length-footprints_at inodes o t (request ∷ requests) = ap suc (length-footprints_at inodes (ordinal_after o 1) t requests)

abbrev pub own_plan : Machine → ℕ → Footprint
own_plan m k = (standing_at m.standings k).footprint

-- The calls of a group that was planned on some inodes -----------------------------------------------------------------------

module _ (start : Inodes) (m : Machine) (feet : feet_of m ≡ footprints_at start m.ordinal m.time m.requests) where
  pub as_many : length m.standings ≡ length m.requests
  as_many = sym (length-map m.standings (λ (s : Standing). s.footprint)) ∙ ap length feet ∙ length-footprints_at start m.ordinal m.time m.requests

  -- each was planned with the footprint with which it stands
  pub planned : plan start m.ordinal m.time m.requests ≡ own_plan m
  planned = λ i k. planned_at k i
    where
      planned_at : (k : ℕ) → plan start m.ordinal m.time m.requests k ≡ own_plan m k
      planned_at k = ap (λ fs. footprint_at fs k) (sym feet) ∙ footprint_there m.standings k

-- One event --------------------------------------------------------------------------------------------------------------------

module _ (m : Machine) (many : length m.standings ≡ length m.requests) where
  abbrev OwnStep : World (List ℕ) → model.Event → World (List ℕ) → Type 0
  OwnStep w event next = Step answered (length m.requests) (asked_at m.ordinal m.time m.requests) (own_plan m) w event next

  pub may_begin : (number : ℕ) → CanTake m number → MayBegin answered (length m.requests) (asked_at m.ordinal m.time m.requests) (own_plan m) (world_of m) (number - m.first)
  may_begin number can =
      let less : number - m.first < length m.standings = can.there in (
        (let few : number - m.first < length m.requests = omega arith in few),
        can.waits,
        (λ j below undone. not_held m.standings (number - m.first) (standing_of m number).footprint can.free j below (omega arith) undone),
      )

  take_is_step : (number : ℕ) → CanTake m number → OwnStep (world_of m) (model.Take (number - m.first)) (world_of (after_take m number))
  take_is_step number can = (may_begin number can, world_with m number _ _ can.there)

  finish_is_step : (number : ℕ) → CanFinish m number → OwnStep (world_of m) (model.Finish (number - m.first)) (world_of (after_finish m number))
  finish_is_step number can =
      let less : number - m.first < length m.standings = can.there in (
        away_in (standing_of m number).slot,
        put_back (moved_for (standing_of m number).footprint) (away_in (standing_of m number).slot) m.home,
        (let few : number - m.first < length m.requests = omega arith in few),
        can.away,
        (λ id touched. refl),
        world_with m number _ _ can.there,
      )

-- Lists of events --------------------------------------------------------------------------------------------------------------

module _ (count : ℕ) (asked : ℕ → Asked) (feet : ℕ → Footprint) where
  pub steps_more : (events : List model.Event) (event : model.Event) (w mid last : World (List ℕ)) → Steps answered count asked feet w events mid → Step answered count asked feet mid event last → Steps answered count asked feet w (events ++ event ∷ []) last
  steps_more [] event w mid last steps step = (last, subst (λ v. Step answered count asked feet v event last) steps step, refl)
  steps_more (first ∷ events) event w mid last steps step = (steps.0, steps.1, steps_more events event steps.0 mid last steps.2 step)

-- on the plan of the group
module _ (start : Inodes) (m : Machine) (feet : feet_of m ≡ footprints_at start m.ordinal m.time m.requests) where
  abbrev PlanStep : World (List ℕ) → model.Event → World (List ℕ) → Type 0
  PlanStep w event next = Step answered (length m.requests) (calls start m.ordinal m.time m.requests) (plan start m.ordinal m.time m.requests) w event next

  on_plan : (event : model.Event) (next : World (List ℕ)) → OwnStep m (as_many start m feet) (world_of m) event next → PlanStep (world_of m) event next
  on_plan event next step =
      subst (λ p. Step answered (length m.requests) (asked_at m.ordinal m.time m.requests) p (world_of m) event next) (sym (planned start m feet)) step

  pub take_step : (number : ℕ) → take_refusal m number ≡ None → PlanStep (world_of m) (model.Take (number - m.first)) (world_of (after_take m number))
  take_step number none = on_plan (model.Take (number - m.first)) (world_of (after_take m number)) (take_is_step m (as_many start m feet) number (can_take m number none))

  pub finish_step : (number : ℕ) → finish_refusal m number ≡ None → PlanStep (world_of m) (model.Finish (number - m.first)) (world_of (after_finish m number))
  finish_step number none = on_plan (model.Finish (number - m.first)) (world_of (after_finish m number)) (finish_is_step m (as_many start m feet) number (can_finish m number none))

-- events of a group lead one event further
abbrev pub reached_by_take : (m : Machine) (number : ℕ) → IsReached m → take_refusal m number ≡ None → IsReached (after_take m number)
reached_by_take m number r none = record {
  start = r.start;
  events = r.events ++ model.Take (number - m.first) ∷ [];
  group = r.group;
  footprints = footprints_with m number _ ∙ r.footprints;
  lead = steps_more (length m.requests) (calls r.start m.ordinal m.time m.requests) (plan r.start m.ordinal m.time m.requests) r.events (model.Take (number - m.first)) (at_first r.start m.ordinal m.time m.requests) (world_of m) (world_of (after_take m number))
      r.lead (take_step r.start m r.footprints number none);
}

abbrev pub reached_by_finish : (m : Machine) (number : ℕ) → IsReached m → finish_refusal m number ≡ None → IsReached (after_finish m number)
reached_by_finish m number r none = record {
  start = r.start;
  events = r.events ++ model.Finish (number - m.first) ∷ [];
  group = r.group;
  footprints = footprints_with m number _ ∙ r.footprints;
  lead = steps_more (length m.requests) (calls r.start m.ordinal m.time m.requests) (plan r.start m.ordinal m.time m.requests) r.events (model.Finish (number - m.first)) (at_first r.start m.ordinal m.time m.requests) (world_of m) (world_of (after_finish m number))
      r.lead (finish_step r.start m r.footprints number none);
}

on_allowed : (refused : Option CoreError) (after last : Machine) (go : Machine → Result Machine CoreError) → on_ok go (unless refused after) ≡ Ok last → (refused ≡ None) × (go after ≡ Ok last)
on_allowed None after last go is = (refl, is)
on_allowed (Some e) after last go is = absurd cc

same_machine : (m n : Machine) → ◌≡◌ {A = Result Machine CoreError} (Ok m) (Ok n) → m ≡ n
same_machine m n e = cc

played_steps : (start : Inodes) (events : List Event) (m last : Machine) → feet_of m ≡ footprints_at start m.ordinal m.time m.requests → played events m ≡ Ok last
    → Steps answered (length m.requests) (calls start m.ordinal m.time m.requests) (plan start m.ordinal m.time m.requests) (world_of m) (map (event_at m.first) events) (world_of last)
played_steps start [] m last feet is = ap world_of (sym (same_machine m last is))
played_steps start (Take number ∷ events) m last feet is =
    let parts = on_allowed (take_refusal m number) (after_take m number) last (played events) is in (
      world_of (after_take m number),
      take_step start m feet number parts.0,
      played_steps start events (after_take m number) last (footprints_with m number _ ∙ feet) parts.1,
    )
played_steps start (Finish number ∷ events) m last feet is =
    let parts = on_allowed (finish_refusal m number) (after_finish m number) last (played events) is in (
      world_of (after_finish m number),
      finish_step start m feet number parts.0,
      played_steps start events (after_finish m number) last (footprints_with m number _ ∙ feet) parts.1,
    )

-- At the start -------------------------------------------------------------------------------------------------------------------

abbrev waits : Footprint → Standing
waits f = record { footprint = f; slot = waiting }

pub feet_at_start : (fs : List Footprint) → map (λ (s : Standing). s.footprint) (map waits fs) ≡ fs
feet_at_start [] = refl
feet_at_start (f ∷ fs) = ap (λ gs. f ∷ gs) (feet_at_start fs)

all_wait : (fs : List Footprint) (k : ℕ) → (standing_at (map waits fs) k).slot ≡ waiting
all_wait [] k = refl
all_wait (f ∷ fs) zero = refl
all_wait (f ∷ fs) (suc k) = all_wait fs k

pub start_world : (first o : ℕ) (t : Time) (requests : List (List ℕ)) (inodes : Inodes) → ◌≡◌ {A = World (List ℕ)} (world_of (at_start first o t requests inodes)) (at_first inodes o t requests)
start_world first o t requests inodes = λ i. record { home = inodes; slots = λ k. all_wait (footprints_at inodes o t requests) k i }

abbrev pub start_reached : (first o : ℕ) (t : Time) (requests : List (List ℕ)) (inodes : Inodes) → IsGroup (record { tree = inodes; next_ordinal = o; last_time = t }) t requests → IsReached (at_start first o t requests inodes)
start_reached first o t requests inodes group = record {
  start = inodes;
  events = [];
  group = group;
  footprints = feet_at_start (footprints_at inodes o t requests);
  lead = start_world first o t requests inodes;
}

-- The laws -----------------------------------------------------------------------------------------------------------------------

pub events_are_steps : EventsAreSteps
events_are_steps first o t requests inodes events last is =
    subst (λ w. Steps answered (length requests) (calls inodes o t requests) (plan inodes o t requests) w (map (event_at first) events) (world_of last)) (start_world first o t requests inodes)
    (played_steps inodes events (at_start first o t requests inodes) last (feet_at_start (footprints_at inodes o t requests)) is)

-- what stays as it was planned
played_feet : (events : List Event) (m last : Machine) → played events m ≡ Ok last → feet_of last ≡ feet_of m
played_feet [] m last is = ap feet_of (sym (same_machine m last is))
played_feet (Take number ∷ events) m last is =
    let parts = on_allowed (take_refusal m number) (after_take m number) last (played events) is in played_feet events (after_take m number) last parts.1 ∙ footprints_with m number _
played_feet (Finish number ∷ events) m last is =
    let parts = on_allowed (finish_refusal m number) (after_finish m number) last (played events) is in played_feet events (after_finish m number) last parts.1 ∙ footprints_with m number _

all_done : (xs : List Standing) → list_all (λ (s : Standing). is_done s.slot) xs ≡ true → (k : ℕ) → k < length xs → is_done (standing_at xs k).slot ≡ true
all_done [] is k less = absurd (omega arith)
all_done (x ∷ xs) is zero less = (both (is_done x.slot) (list_all (λ (s : Standing). is_done s.slot) xs) is).0
all_done (x ∷ xs) is (suc k) less = all_done xs (both (is_done x.slot) (list_all (λ (s : Standing). is_done s.slot) xs) is).1 k (omega arith)

slots_listed : (xs : List Standing) → slots_of (length xs) (λ k. (standing_at xs k).slot) ≡ map (λ (s : Standing). s.slot) xs
slots_listed [] = refl
slots_listed (x ∷ xs) = ap (λ ss. x.slot ∷ ss) (slots_listed xs)

pub events_overtake : EventsOvertake
events_overtake files t requests group first events last is complete =
    let o = files.next_ordinal in
    let inodes = files.tree in
    let many : length last.standings ≡ length requests =
    sym (length-map last.standings (λ (s : Standing). s.footprint)) ∙ ap length (played_feet events (at_start first o t requests inodes) last is ∙ feet_at_start (footprints_at inodes o t requests)) ∙ length-footprints_at inodes o t requests in
    let ends = requests_overtake files t requests group (map (event_at first) events) (world_of last) (events_are_steps first o t requests inodes events last is) (λ k less. all_done last.standings complete k (omega (arith, many))) in (
      ends.0,
      sym (slots_listed last.standings) ∙ ap (λ n. slots_of n (λ k. (standing_at last.standings k).slot)) many ∙ ends.1,
    )
