-- Whatever is a step in the model is accepted, and leads to the same world.
use Rattle.std.proofs.Common.{◌≡◌, ℕ, zero, suc, ◌+◌, ◌-◌, ◌<◌, ◌≤◌, Bool, true, false, cond, not, ◌&&◌, ◌||◌, List, [], ◌∷◌, length, map, take, Some, None, Ok, refl, ap, sym, subst, ◌∙◌, arith}
use Rattle.std.specs.FinMap.{get}
use Rattle.std.proofs.lemmas.Bool.{le-leb, lt-ltb}
use Rattle.bfs_model.specs.Server.Tree.{Inodes}
use Rattle.bfs_model.specs.Server.Footprints.{Footprint, footprint_of}
use Rattle.bfs_model.specs.Server.Conflicts.{is_written, conflict, AgreeOn, put_back, closed}
use Rattle.bfs_model.specs.Server.Shares.{moved_for}
use Rattle.bfs_model.specs.Server.WellFormed.{IsWellFormed}
use Rattle.bfs_model.specs.Server.Events.{Slot, waiting, taken, finished, is_done, World, put_slot, MayBegin, took, ended, Step, Steps}
use Rattle.bfs_model.specs.Server.Events as model
use Rattle.bfs_model.specs.Laws.Overtaking.{Asked, answered, asked_at, plan, calls}
use Rattle.bfs_model.proofs.Public.{get-closed, requests_keep_to_footprints, same_inodes}
use Rattle.bfs_overtaking.specs.declared.errors.CoreError.TheVariants as error
use Rattle.bfs_overtaking.specs.Laws.Overtaking.{StepsAreAccepted}
use Rattle.bfs_overtaking.specs.Machine.{Standing, Machine, at_start, standing_at, standing_of, has_call, is_waiting, is_taken, away_in, is_held, take_refusal, finish_refusal, after_take, after_finish, unless, on_ok, played}
use Rattle.bfs_overtaking.specs.Laws.Reached.{world_of, event_from, IsReached}
use Rattle.bfs_overtaking.proofs.Standings.{world_with, CanFinish}
use Rattle.bfs_overtaking.proofs.Stepping.{own_plan, planned, as_many, reached_by_take, reached_by_finish, start_reached, start_world}
use Rattle.bfs_overtaking.proofs.Sharing.{touches}

held_not : (d c : Bool) → (d ≡ false → c ≡ false) → (not d && c) ≡ false
held_not true c none = refl
held_not false c none = none refl

free_held : (xs : List Standing) (k : ℕ) (f : Footprint) → ((j : ℕ) → j < k → j < length xs → is_done (standing_at xs j).slot ≡ false → conflict (standing_at xs j).footprint f ≡ false) → is_held (take k xs) f ≡ false
free_held xs zero f free = refl
free_held [] (suc k) f free = refl
free_held (x ∷ xs) (suc k) f free =
    ap (λ b. b || is_held (take k xs) f) (held_not (is_done x.slot) (conflict x.footprint f) (λ undone. free 0 (omega arith) (omega arith) undone))
    ∙ free_held xs k f (λ j below less undone. free (suc j) (omega arith) (omega arith) undone)

back : (a b : ℕ) → (a + b) - a ≡ b
back a b = omega arith

-- the call at a place has its number
at_place : (m : Machine) (k : ℕ) → k < length m.standings → has_call m (m.first + k) ≡ true
at_place m k less =
    let from : m.first ≤ m.first + k = omega arith in
    let there : (m.first + k) - m.first < length m.standings = omega arith in
    λ i. le-leb m.first (m.first + k) from i && lt-ltb ((m.first + k) - m.first) (length m.standings) there i

stands_at : (m : Machine) (k : ℕ) → standing_of m (m.first + k) ≡ standing_at m.standings k
stands_at m k = ap (standing_at m.standings) (back m.first k)

closed_twice : (f : Footprint) (left own home : Inodes) → closed f (closed f left own) home ≡ closed f left home
closed_twice f left own home = same_inodes _ _ (λ q.
    get-closed f (closed f left own) home q ∙ ap (λ o. cond (is_written f q) o (get home q)) (get-closed f left own q) ∙ once (is_written f q) (get left q) (get own q) (get home q) ∙ sym (get-closed f left home q))
  where
    once : {X : Type 0} (b : Bool) (x y z : X) → cond b (cond b x y) z ≡ cond b x z
    once true x y z = refl
    once false x y z = refl

module _ (m : Machine) (r : IsReached m) where
  abbrev OwnStep : model.Event → World (List ℕ) → Type 0
  OwnStep event next = Step answered (length m.requests) (asked_at m.ordinal m.time m.requests) (own_plan m) (world_of m) event next

  own_step : (event : model.Event) (next : World (List ℕ)) → Step answered (length m.requests) (calls r.start m.ordinal m.time m.requests) (plan r.start m.ordinal m.time m.requests) (world_of m) event next → OwnStep event next
  own_step event next step =
      subst (λ p. Step answered (length m.requests) (asked_at m.ordinal m.time m.requests) p (world_of m) event next) (planned r.start m r.footprints) step

  within : (k : ℕ) → k < length m.requests → k < length m.standings
  within k less = let count : length m.standings ≡ length m.requests = as_many r.start m r.footprints in omega arith

  -- A call that may begin is taken
  module _ (k : ℕ) (next : World (List ℕ)) (step : OwnStep (model.Take k) next) where
    less_take : k < length m.standings
    less_take = within k step.0.0

    take_none : take_refusal m (m.first + k) ≡ None
    take_none =
        let held : is_held (take k m.standings) (standing_at m.standings k).footprint ≡ false = free_held m.standings k (standing_at m.standings k).footprint (λ j below few undone. step.0.2 j below undone) in
        let held_there : is_held (take ((m.first + k) - m.first) m.standings) (standing_of m (m.first + k)).footprint ≡ false =
        (λ i. is_held (take (back m.first k i) m.standings) (stands_at m k i).footprint) ∙ held in
        let waits : is_waiting (standing_of m (m.first + k)).slot ≡ true = ap (λ (s : Standing). is_waiting s.slot) (stands_at m k) ∙ ap is_waiting step.0.1 in
        λ i. cond (not (at_place m k less_take i)) (Some error.NoSuchCall) (cond (not (waits i)) (Some error.Taken) (cond (held_there i) (Some error.NotReady) None))

    take_world : world_of (after_take m (m.first + k)) ≡ next
    take_world =
        let there : (m.first + k) - m.first < length m.standings = subst (λ n. n < length m.standings) (sym (back m.first k)) less_take in
        let here : ◌≡◌ {A = World (List ℕ)} (world_of (after_take m (m.first + k))) (took answered (length m.requests) (asked_at m.ordinal m.time m.requests) (own_plan m) (world_of m) ((m.first + k) - m.first)) =
        world_with m (m.first + k) _ _ there in
        here ∙ ap (λ n. took answered (length m.requests) (asked_at m.ordinal m.time m.requests) (own_plan m) (world_of m) n) (back m.first k)
        ∙ sym step.1

  -- A call under way is finished
  module _ (k : ℕ) (next : World (List ℕ)) (step : OwnStep (model.Finish k) next) where
    less_finish : k < length m.standings
    less_finish = within k step.2

    under_way : (standing_of m (m.first + k)).slot ≡ taken step.0
    under_way = ap (λ (s : Standing). s.slot) (stands_at m k) ∙ step.3

    finish_none : finish_refusal m (m.first + k) ≡ None
    finish_none = λ i. cond (not (at_place m k less_finish i)) (Some error.NoSuchCall) (cond (not (ap is_taken under_way i)) (Some error.NotTaken) None)

    can : CanFinish m (m.first + k)
    can = record { from = omega arith; there = subst (λ n. n < length m.standings) (sym (back m.first k)) less_finish; away = under_way ∙ ap {A = Inodes} {B = Slot (List ℕ)} taken (sym (ap away_in under_way)) }

    abbrev f : Footprint
    f = (standing_of m (m.first + k)).footprint

    abbrev asked : Asked
    asked = asked_at m.ordinal m.time m.requests ((m.first + k) - m.first)

    -- what the machine hands the call
    abbrev own : Inodes
    own = put_back (moved_for f) (away_in (standing_of m (m.first + k)).slot) m.home

    agree : AgreeOn (footprint_of own asked.ordinal asked.time asked.bytes) own step.1
    agree = subst (λ g. AgreeOn g own step.1) (sym (touches m r (m.first + k) can))
        (subst (λ (s : Standing). AgreeOn s.footprint (put_back (moved_for s.footprint) (away_in s.slot) m.home) step.1) (sym (stands_at m k))
        (subst (λ away. AgreeOn (standing_at m.standings k).footprint (put_back (moved_for (standing_at m.standings k).footprint) away m.home) step.1) (sym (ap away_in step.3)) step.4))

    same : answered asked step.1 ≡ (closed f (answered asked own).0 step.1, (answered asked own).1)
    same = requests_keep_to_footprints own step.1 asked.ordinal asked.time asked.bytes agree
        ∙ ap (λ g. (closed g (answered asked own).0 step.1, (answered asked own).1)) (touches m r (m.first + k) can)

    ended_same : ◌≡◌ {A = World (List ℕ)} (world_of (after_finish m (m.first + k))) (ended answered (length m.requests) (asked_at m.ordinal m.time m.requests) (own_plan m) (world_of m) ((m.first + k) - m.first) step.1)
    ended_same =
        world_with m (m.first + k) (finished (answered asked own).1) (closed f (answered asked own).0 m.home) can.there
        ∙ (λ i. record {
          home = (sym (ap (λ (outcome : Inodes × List ℕ). closed f outcome.0 m.home) same ∙ closed_twice f (answered asked own).0 step.1 m.home)) i;
          slots = put_slot (world_of m).slots ((m.first + k) - m.first) (finished ((sym (ap (λ (outcome : Inodes × List ℕ). outcome.1) same)) i));
        })

    finish_world : world_of (after_finish m (m.first + k)) ≡ next
    finish_world = ended_same ∙ ap (λ n. ended answered (length m.requests) (asked_at m.ordinal m.time m.requests) (own_plan m) (world_of m) n step.1) (back m.first k) ∙ sym step.5

-- Lists of events --------------------------------------------------------------------------------------------------------------

all_accepted : (start : Inodes) (m : Machine) (r : IsReached m) → r.start ≡ start → (events : List model.Event) (world : World (List ℕ))
    → Steps answered (length m.requests) (calls start m.ordinal m.time m.requests) (plan start m.ordinal m.time m.requests) (world_of m) events world
    → (last : Machine) × (played (map (event_from m.first) events) m ≡ Ok last) × (world_of last ≡ world)
all_accepted start m r from [] world steps = (m, refl, sym steps)
all_accepted start m r from (model.Take k ∷ events) world steps =
    let step = own_step m r (model.Take k) steps.0 (subst (λ s. Step answered (length m.requests) (calls s m.ordinal m.time m.requests) (plan s m.ordinal m.time m.requests) (world_of m) (model.Take k) steps.0) (sym from) steps.1) in
    let none = take_none m r k steps.0 step in
    let rest = all_accepted start (after_take m (m.first + k)) (reached_by_take m (m.first + k) r none) from events world
    (subst (λ w. Steps answered (length m.requests) (calls start m.ordinal m.time m.requests) (plan start m.ordinal m.time m.requests) w events world) (sym (take_world m r k steps.0 step)) steps.2) in
    (rest.0, ap (λ refused. on_ok (played (map (event_from m.first) events)) (unless refused (after_take m (m.first + k)))) none ∙ rest.1, rest.2)
all_accepted start m r from (model.Finish k ∷ events) world steps =
    let step = own_step m r (model.Finish k) steps.0 (subst (λ s. Step answered (length m.requests) (calls s m.ordinal m.time m.requests) (plan s m.ordinal m.time m.requests) (world_of m) (model.Finish k) steps.0) (sym from) steps.1) in
    let none = finish_none m r k steps.0 step in
    let rest = all_accepted start (after_finish m (m.first + k)) (reached_by_finish m (m.first + k) r none) from events world
    (subst (λ w. Steps answered (length m.requests) (calls start m.ordinal m.time m.requests) (plan start m.ordinal m.time m.requests) w events world) (sym (finish_world m r k steps.0 step)) steps.2) in
    (rest.0, ap (λ refused. on_ok (played (map (event_from m.first) events)) (unless refused (after_finish m (m.first + k)))) none ∙ rest.1, rest.2)

pub steps_are_accepted : StepsAreAccepted
steps_are_accepted files t requests group first events world lead =
    let formed : IsWellFormed (record { tree = files.tree; next_ordinal = files.next_ordinal; last_time = t }) = record { tree = group.0.tree; numbered = group.0.numbered; ordinal = group.0.ordinal } in
    all_accepted files.tree (at_start first files.next_ordinal t requests files.tree)
    (start_reached first files.next_ordinal t requests files.tree (formed, group.1)) refl events world
    (subst (λ w. Steps answered (length requests) (calls files.tree files.next_ordinal t requests) (plan files.tree files.next_ordinal t requests) w events world) (sym (start_world first files.next_ordinal t requests files.tree)) lead)
