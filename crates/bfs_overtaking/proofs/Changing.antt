-- The core after one of its calls is taken, or finished.
use Rattle.std.proofs.Common.{◌≡◌, ℕ, zero, suc, ◌-◌, ◌<◌, ◌≤◌, Bool, true, false, cond, not, ◌||◌, true≢false, List, [], ◌∷◌, length, map, set, drop, get_or, Vec, Option, Some, None, is_some, refl, ap, sym, subst, ◌∙◌, arith, eqb}
use Rattle.std.specs.Prelude.{⊤, min}
use Rattle.std.specs.Global.{Global}
use Rattle.std.specs.Ordering.{nat_cmp}
use Rattle.std.specs.List.{list_any, list_all, slice_get}
use Rattle.std.specs.FinMap.{get, len, empty, get-empty, get-retain_keys, len-empty, same_map, nat_cmp-IsAntisymmetric}
use Rattle.std.proofs.lemmas.Cmp.{nat_cmp_total}
use Rattle.std.proofs.lemmas.Bool.{or_left}
use Rattle.std.proofs.lemmas.List.{length-map, length-set, length-take, length-drop, map-set, get_or-take}
use Rattle.std.proofs.lemmas.List.Elements.{All-set}
use Rattle.std.proofs.lemmas.Option.{slice_get_read, get_or_from_slice_get}
use Rattle.bfs_model.specs.Server.Tree.{Time, Inodes, spent_ordinal}
use Rattle.bfs_model.specs.Server.Serial.{ordinal_after, answer}
use Rattle.bfs_model.specs.Server.Footprints.{Footprint, known, whole, IsFreshFor, footprint_of}
use Rattle.bfs_model.specs.Server.Conflicts.{among, is_whole, is_written, is_touched, put_back, closed}
use Rattle.bfs_model.specs.Server.Shares.{moved_for, without}
use Rattle.bfs_model.specs.Server.Events.{waiting, taken, finished, is_done, moved}
use Rattle.bfs_model.specs.Laws.Overtaking.{Asked, asked_at}
use Rattle.bfs_model.proofs.Public.{all_among, get-closed, get-put_back, moved_is_written, requests_keep_to_footprints, same_inodes, written_is_touched}
use Rattle.bfs_footprint.specs.Seen.{footprint_seen}
use Rattle.bfs_tree.specs.Reach.{Reach, Knows}
use Rattle.bfs_tree.specs.Slots.{Slots}
use Rattle.bfs_tree.specs.Tree.{at_home, lent, reach_of}
use Rattle.bfs_handover.specs.Loans.{ids_of, loaned, put_in, reach_with}
use Rattle.bfs_handover.specs.Moves.{AreDistinct, AreOwned}
use Rattle.bfs_handover.specs.declared.loans.Loan.{Loan}
use Rattle.bfs_handover.specs.declared.job.Job.{Job}
use Rattle.bfs_handover.proofs.Public.{get-put_in, get_owned, get_borrowed}
use Rattle.bfs_overtaking.specs.declared.calls.Call.{Call}
use Rattle.bfs_overtaking.specs.declared.running.Running.TheInside.{Inside}
use Rattle.bfs_overtaking.specs.declared.calls.State.{State}
use Rattle.bfs_overtaking.specs.declared.calls.State.TheVariants.{Waiting, Taken, Finished}
use Rattle.bfs_overtaking.specs.Inside.Lent.{AreLentOut, IsCarriedOut}
use Rattle.bfs_overtaking.specs.Machine.{Standing, Machine, standing_of, away_in, is_complete, take_refusal, finish_refusal, after_take, outcome_of, after_finish}
use Rattle.bfs_levels.specs.Parts.{first_requests, requests_in}
use Rattle.bfs_overtaking.specs.Seen.{slot_seen, standing_seen, machine_seen}
use Rattle.bfs_overtaking.specs.Inside.Running.{lent_for, HasItsOwn, OwnsWritten, IsRunning}
use Rattle.bfs_overtaking.specs.Laws.Reached.{IsReached}
use Rattle.bfs_overtaking.proofs.Standings.{CanFinish, can_take, can_finish, both}
use Rattle.bfs_overtaking.proofs.Stepping.{reached_by_take, reached_by_finish}
use Rattle.bfs_overtaking.proofs.Sharing.{many, touches, fresh, most}
use Rattle.bfs_overtaking.proofs.Owning.{has, any_more, any_kept, any_there, none_left, none_but, standing_there, owns_there, waiting_none, not_out, owned, others_lack}

-- the machine that the core stands for, with that tree and these calls
abbrev seen_at : Inside → Slots → List Call → Machine
seen_at core tree calls = machine_seen core.part tree calls

abbrev pub seen_of : Inside → Machine
seen_of core = seen_at core core.tree core.calls.items

moved_written : (g : Footprint) (id : ℕ) → among (moved_for g) id ≡ true → is_written g id ≡ true
moved_written (known reads writes) id is = is
moved_written whole id is = refl

first_after : (o : ℕ) → o ≤ spent_ordinal → o ≡ ordinal_after o 0
first_after o most = omega arith

step_after : (o k : ℕ) → ordinal_after (ordinal_after o 1) k ≡ ordinal_after o (suc k)
step_after o k = omega arith

-- the request of a place
asked_is : (o : ℕ) (t : Time) (requests : List (List ℕ)) (k : ℕ) → o ≤ spent_ordinal → k < length requests → asked_at o t requests k ≡ record { ordinal = ordinal_after o k; time = t; bytes = get_or requests k [] }
asked_is o t [] k few less = absurd (omega arith)
asked_is o t (request ∷ requests) zero few less = λ i. record { ordinal = first_after o few i; time = t; bytes = request }
asked_is o t (request ∷ requests) (suc k) few less =
    asked_is (ordinal_after o 1) t requests k (omega arith) (omega arith) ∙ (λ i. record { ordinal = step_after o k i; time = t; bytes = get_or requests k [] })

none_lent : (s : Slots) → ((q : ℕ) → is_some (get (lent s) q) ≡ false) → (reach_of s).whole ≡ true
none_lent s none =
    let bare : lent s ≡ empty = same_map nat_cmp_total nat_cmp-IsAntisymmetric _ _ (λ q. none_there (get (lent s) q) (none q) ∙ sym (get-empty nat_cmp q)) in
    ap (λ m. eqb (len m) 0) bare ∙ ap (λ n. eqb n 0) (len-empty nat_cmp ⊤)
  where
    none_there : {X : Type 0} (x : Option X) → is_some x ≡ false → x ≡ None
    none_there None is = refl
    none_there (Some x) is = absurd (true≢false is)

-- the call of a number that can be taken, or finished
pub there_by : (calls : List Call) (place : ℕ) (call : Call) → place < length (map standing_seen calls) → call ≡ get_or calls place call → slice_get calls place ≡ Some call
there_by calls place call less is = slice_get_read calls (length calls) place call refl (omega (arith, length-map calls standing_seen)) is

pub there_to_take : (core : Inside) (number : ℕ) (call : Call)
    → take_refusal (seen_of core) number ≡ None → call ≡ get_or core.calls.items (number - core.part.first) call → slice_get core.calls.items (number - core.part.first) ≡ Some call
there_to_take core number call none is = there_by core.calls.items (number - core.part.first) call (can_take (seen_of core) number none).there is

pub there_to_finish : (core : Inside) (number : ℕ) (call : Call)
    → finish_refusal (seen_of core) number ≡ None → call ≡ get_or core.calls.items (number - core.part.first) call → slice_get core.calls.items (number - core.part.first) ≡ Some call
there_to_finish core number call none is = there_by core.calls.items (number - core.part.first) call (can_finish (seen_of core) number none).there is

done_none : (s : State) → is_done (slot_seen s) ≡ true → lent_for s ≡ []
done_none Waiting is = refl
done_none (Taken loans) is = absurd (true≢false (sym is))
done_none (Finished reply) is = refl

all_done_none : (calls : List Call) (q : ℕ) → list_all (λ (s : Standing). is_done s.slot) (map standing_seen calls) ≡ true → list_any (has q) calls ≡ false
all_done_none [] q is = refl
all_done_none (call ∷ calls) q is =
    let parts = both (is_done (slot_seen call.state)) (list_all (λ (s : Standing). is_done s.slot) (map standing_seen calls)) is in
    ap (λ ids. among ids q || list_any (has q) calls) (done_none call.state parts.0) ∙ all_done_none calls q parts.1

-- once all calls are finished the tree is whole
pub whole_when_done : (core : Inside) → IsRunning core.tree core.calls.items (seen_of core) → is_complete (seen_of core) ≡ true → (reach_of core.tree).whole ≡ true
whole_when_done core run is = none_lent core.tree (λ q. run.out q ∙ all_done_none core.calls.items q is)

get-moved : (ids : List ℕ) (m : Inodes) (id : ℕ) → get (moved ids m) id ≡ cond (among ids id) (get m id) None
get-moved ids m id = get-retain_keys m (among ids) id (λ x tied. ap (among ids) (sym (nat_cmp-IsAntisymmetric id x tied)))

-- a call of a running core
pub record AtCall : Type 0 where
  pub core : Inside
  pub run : IsRunning core.tree core.calls.items (seen_of core)
  pub number : ℕ
  pub call : Call
  pub there : slice_get core.calls.items (number - core.part.first) ≡ Some call

-- that can be finished, with what it was lent
pub record UnderWay (a : AtCall) : Type 0 where
  pub none : finish_refusal (seen_of a.core) a.number ≡ None
  pub loans : List Loan
  pub lent : a.call.state ≡ Taken loans

-- what its request asks for
pub record RequestAt (a : AtCall) : Type 0 where
  pub ordinal : ℕ
  pub bytes : List ℕ
  pub asks : asked_at a.core.part.ordinal a.core.part.time (first_requests a.core.part (length a.core.calls.items)) (a.number - a.core.part.first) ≡ record { ordinal = ordinal; time = a.core.part.time; bytes = bytes }

-- what answering a job on the tree itself leaves is what carrying it out leaves
abbrev pub CarriesOutAlone : Slots → List Loan → (ordinal : ℕ) → Time → (bytes : List ℕ) → Type 0
CarriesOutAlone tree loans ordinal time bytes =
    (new : Slots) (job : Job) (reply : List ℕ) → job.ordinal ≡ ordinal → job.time ≡ time → job.request.now ≡ bytes → job.inodes ≡ loans
    → ◌≡◌ {A = Inodes × List ℕ} (at_home new, reply) (answer (at_home tree) ordinal time bytes) → reach_of new ≡ reach_of tree → IsCarriedOut tree new job reply

module _ (a : AtCall) where
  abbrev tree : Slots
  tree = a.core.tree

  abbrev calls : List Call
  calls = a.core.calls.items

  abbrev m : Machine
  m = seen_of a.core

  abbrev requests : List (List ℕ)
  requests = m.requests

  abbrev place : ℕ
  place = a.number - a.core.part.first

  abbrev f : Footprint
  f = footprint_seen a.call.footprint

  stands : standing_of m a.number ≡ standing_seen a.call
  stands = standing_there calls place a.call a.there

  pub foot : (standing_of m a.number).footprint ≡ f
  foot = ap (λ (s : Standing). s.footprint) stands

  abbrev with_state : State → List Call
  with_state s = set calls place (record { footprint = a.call.footprint; state = s })

  seen_with : (s : State) → map standing_seen (with_state s) ≡ set (map standing_seen calls) place (record { footprint = f; slot = slot_seen s })
  seen_with s = map-set standing_seen calls place (record { footprint = a.call.footprint; state = s })

  requests_with : (s : State) → first_requests a.core.part (length (with_state s)) ≡ requests
  requests_with s = ap (λ n. first_requests a.core.part n) (length-set calls place (record { footprint = a.call.footprint; state = s }))

  pub owned_to_take : take_refusal m a.number ≡ None → AreOwned tree (moved_for f)
  owned_to_take none = subst (λ g. AreOwned tree (moved_for g)) foot (owned tree calls m a.run refl a.number none)

  -- Taken ------------------------------------------------------------------------------------------------------------------------

  module _ (none : take_refusal m a.number ≡ None) (new : Slots) (loans : List Loan) (out : AreLentOut tree new (moved_for f) loans) where
    goes : put_in loans empty ≡ moved (moved_for f) (at_home tree)
    goes = same_inodes _ _ (λ q. get-put_in loans empty q ∙ ap (cond (among (ids_of loans) q) (loaned loans q)) (get-empty nat_cmp q) ∙ by_test q (among (moved_for f) q) refl ∙ sym (get-moved (moved_for f) (at_home tree) q))
      where
        by_test : (q : ℕ) (b : Bool) → among (moved_for f) q ≡ b → cond (among (ids_of loans) q) (loaned loans q) None ≡ cond b (get (at_home tree) q) None
        by_test q true is = ap (λ b. cond b (loaned loans q) None) (out.same q ∙ is) ∙ out.values q is
        by_test q false is = ap (λ b. cond b (loaned loans q) None) (out.same q ∙ is)

    pub taken_seen : seen_at a.core new (with_state (Taken loans)) ≡ after_take m a.number
    taken_seen = λ i. record {
      first = a.core.part.first;
      ordinal = a.core.part.ordinal;
      time = a.core.part.time;
      requests = requests_with (Taken loans) i;
      home = (out.home ∙ ap (λ g. without (moved_for g) (at_home tree)) (sym foot)) i;
      standings = (seen_with (Taken loans) ∙ ap (λ s. set (map standing_seen calls) place s) standing_is) i;
    }
      where
        standing_is : ◌≡◌ {A = Standing} (record { footprint = f; slot = taken (put_in loans empty) }) (record { footprint = (standing_of m a.number).footprint; slot = taken (moved (moved_for (standing_of m a.number).footprint) (at_home tree)) })
        standing_is = ap (λ home. record { footprint = f; slot = taken home }) goes ∙ ap (λ g. record { footprint = g; slot = taken (moved (moved_for g) (at_home tree)) }) (sym foot)

    pub taken_running : IsRunning new (with_state (Taken loans)) (seen_at a.core new (with_state (Taken loans)))
    taken_running =
        let waits : slot_seen a.call.state ≡ waiting = ap (λ (s : Standing). s.slot) (sym stands) ∙ (can_take m a.number none).waits in record {
          reached = subst IsReached (sym taken_seen) (reached_by_take m a.number a.run.reached none);
          out = λ id. out.out id
              ∙ ap (λ b. b || is_some (get (lent tree) id)) (sym (out.same id))
              ∙ ap (λ b. among (ids_of loans) id || b) (a.run.out id)
              ∙ sym (any_more (has id) calls place a.call (record { footprint = a.call.footprint; state = Taken loans }) a.there (ap (λ ids. among ids id) (waiting_none a.call.state waits)));
          own = All-set OwnsWritten calls place (record { footprint = a.call.footprint; state = Taken loans }) (out.distinct, out.same) a.run.own;
        }

  -- Finished ---------------------------------------------------------------------------------------------------------------------

  module _ (w : UnderWay a) where
    abbrev loans : List Loan
    loans = w.loans

    can : CanFinish m a.number
    can = can_finish m a.number w.none

    owns : HasItsOwn f (Taken loans)
    owns = subst (HasItsOwn f) w.lent (owns_there calls place a.call a.run.own a.there)

    abbrev away_now : Inodes
    away_now = put_in loans empty

    away : away_in (standing_of m a.number).slot ≡ away_now
    away = ap (λ (s : Standing). away_in s.slot) stands ∙ ap (λ s. away_in (slot_seen s)) w.lent

    -- the call is handed its own inodes and what is at home
    handed_is : put_back (moved_for (standing_of m a.number).footprint) (away_in (standing_of m a.number).slot) (at_home tree) ≡ put_in loans (at_home tree)
    handed_is = (λ i. put_back (moved_for (foot i)) (away i) (at_home tree)) ∙ same_inodes _ _ (λ q. get-put_back (moved_for f) away_now (at_home tree) q ∙ by_test q (among (moved_for f) q) refl ∙ sym (get-put_in loans (at_home tree) q))
      where
        by_test : (q : ℕ) (b : Bool) → among (moved_for f) q ≡ b → cond b (get away_now q) (get (at_home tree) q) ≡ cond (among (ids_of loans) q) (loaned loans q) (get (at_home tree) q)
        by_test q true it =
            get_owned loans empty q (owns.1 q ∙ it) ∙ sym (ap (λ b. cond b (loaned loans q) (get (at_home tree) q)) (owns.1 q ∙ it))
        by_test q false it = sym (ap (λ b. cond b (loaned loans q) (get (at_home tree) q)) (owns.1 q ∙ it))

    fits : place < length requests
    fits = let less : place < length (map standing_seen calls) = can.there in let count : length (map standing_seen calls) ≡ length requests = many m a.run.reached in omega arith

    pub in_batch : a.number < length a.core.part.batch.now.requests
    in_batch =
        let from : a.core.part.first ≤ a.number = can.from in
        let taken_len : length requests ≡ min (length calls) (length (drop a.core.part.first a.core.part.batch.now.requests)) = length-take (length calls) (drop a.core.part.first a.core.part.batch.now.requests) in
        let dropped : length (drop a.core.part.first a.core.part.batch.now.requests) ≡ length a.core.part.batch.now.requests - a.core.part.first = length-drop a.core.part.first a.core.part.batch.now.requests in
        let small = fits in
        omega arith

    pub asked_for : (bytes : List ℕ) (ordinal : ℕ) → slice_get (requests_in a.core.part) place ≡ Some bytes → ordinal ≡ ordinal_after a.core.part.ordinal place
        → asked_at a.core.part.ordinal a.core.part.time requests place ≡ record { ordinal = ordinal; time = a.core.part.time; bytes = bytes }
    asked_for bytes ordinal there after =
        let less : place < length (map standing_seen calls) = can.there in
        let few : place < length calls = omega (arith, length-map calls standing_seen) in
        let read : get_or requests place [] ≡ bytes = get_or-take (length calls) (requests_in a.core.part) place [] few ∙ get_or_from_slice_get (requests_in a.core.part) place bytes [] there in
        asked_is a.core.part.ordinal a.core.part.time requests place (most m a.run.reached a.number can) fits ∙ (λ i. record { ordinal = sym after i; time = a.core.part.time; bytes = read i })

    -- what the job asks for is the request of its place
    abbrev pub its_request : (bytes : List ℕ) (ordinal : ℕ) → slice_get (requests_in a.core.part) place ≡ Some bytes → ordinal ≡ ordinal_after a.core.part.ordinal place → RequestAt a
    its_request bytes ordinal there after = record { ordinal = ordinal; bytes = bytes; asks = asked_for bytes ordinal there after }

    -- The request, under its ordinal
    module _ (request : RequestAt a) where
      abbrev home : Inodes
      home = at_home tree

      abbrev own : Inodes
      own = put_in loans home

      -- it has its footprint there
      its_foot : footprint_of own request.ordinal a.core.part.time request.bytes ≡ f
      its_foot = (λ i. footprint_of (sym handed_is i) (sym request.asks i).ordinal (sym request.asks i).time (sym request.asks i).bytes) ∙ touches m a.run.reached a.number can ∙ foot

      pub its_fresh : IsFreshFor own request.ordinal (footprint_of own request.ordinal a.core.part.time request.bytes)
      its_fresh = subst (IsFreshFor own request.ordinal) (sym its_foot)
          (subst (λ g. IsFreshFor own request.ordinal g) foot (subst (λ k. IsFreshFor own k (standing_of m a.number).footprint) (ap (λ (asked : Asked). asked.ordinal) request.asks)
          (subst (λ n. IsFreshFor n (asked_at a.core.part.ordinal a.core.part.time requests place).ordinal (standing_of m a.number).footprint) handed_is (fresh m a.run.reached a.number can))))

      -- no other call has what it touches
      lack : (q : ℕ) → is_touched f q ≡ true → (j : ℕ) (other : Call) → (place ≡ j → ⊥) → slice_get calls j ≡ Some other → has q other ≡ false
      lack q touched = others_lack tree calls m a.run refl a.number w.none q (ap (λ g. is_touched g q) foot ∙ touched)

      -- what it touches is its own or at home
      pub known_there : (q : ℕ) → is_touched f q ≡ true → (among (ids_of loans) q || not (is_some (get (lent tree) q))) ≡ true
      known_there q touched = by_test (among (ids_of loans) q) refl
        where
          by_test : (b : Bool) → among (ids_of loans) q ≡ b → (b || not (is_some (get (lent tree) q))) ≡ true
          by_test true its = refl
          by_test false its = ap not (not_out tree calls m a.run refl q (none_but (has q) calls place a.call a.there (ap (λ s. among (lent_for s) q) w.lent ∙ its) (lack q touched)))

      knows : (g : Footprint) → is_whole g ≡ false → f ≡ g → Knows (reach_with (lent tree) home (ids_of loans)) g
      knows (known reads writes) part same = (
        all_among (λ q. (among (ids_of loans) q || not (is_some (get (lent tree) q))) ≡ true) reads (λ q read. known_there q (ap (λ g. is_touched g q) same ∙ or_left (among reads q) (among writes q) read)),
        all_among (λ q. among (ids_of loans) q ≡ true) writes (λ q written. owns.1 q ∙ ap (λ g. among (moved_for g) q) same ∙ written),
      )
      knows whole part same = absurd (true≢false part)

      pub can_run_known : is_whole f ≡ false → Knows (reach_with (lent tree) home (ids_of loans)) (footprint_of own request.ordinal a.core.part.time request.bytes)
      can_run_known part = subst (Knows (reach_with (lent tree) home (ids_of loans))) (sym its_foot) (knows f part refl)

      pub is_out : (q : ℕ) → among (ids_of loans) q ≡ true → is_some (get (lent tree) q) ≡ true
      is_out q its = a.run.out q ∙ any_there (has q) calls place a.call a.there (ap (λ s. among (lent_for s) q) w.lent ∙ its)

      pub distinct : AreDistinct (ids_of loans)
      distinct = owns.0

      -- Of a call that touches all
      module _ (all : is_whole f ≡ true) where
        pub none_its : (q : ℕ) → among (ids_of loans) q ≡ false
        none_its q = owns.1 q ∙ none_moved f all q
          where
            none_moved : (g : Footprint) → is_whole g ≡ true → (q : ℕ) → among (moved_for g) q ≡ false
            none_moved (known reads writes) is q = absurd (true≢false (sym is))
            none_moved whole is q = refl

        pub own_is_home : own ≡ home
        own_is_home = same_inodes _ _ (λ q. get_borrowed loans home q (none_its q))

        touches_all : (q : ℕ) → is_touched f q ≡ true
        touches_all q = touched_all f all q
          where
            touched_all : (g : Footprint) → is_whole g ≡ true → (q : ℕ) → is_touched g q ≡ true
            touched_all (known reads writes) is q = absurd (true≢false (sym is))
            touched_all whole is q = refl

        is_whole_tree : (reach_of tree).whole ≡ true
        is_whole_tree = none_lent tree (λ q. not_out tree calls m a.run refl q (none_but (has q) calls place a.call a.there (ap (λ s. among (lent_for s) q) w.lent ∙ none_its q) (lack q (touches_all q))))

        pub alone_is : CarriesOutAlone tree loans request.ordinal a.core.part.time request.bytes
        alone_is new job reply jo_is jt_is bytes_is loans_are answers reach = record {
          answers = answers ∙ (λ i. answer (sym own_is_home i) (sym jo_is i) (sym jt_is i) (sym bytes_is i)) ∙ ap (λ ls. answer (put_in ls home) job.ordinal job.time job.request.now) (sym loans_are);
          still_out = λ q. not_same (is_some (get (lent new) q)) (is_some (get (lent tree) q)) (ap (λ (reach : Reach). reach.known q) reach)
              ∙ sym (ap (λ b. cond b false (is_some (get (lent tree) q))) (ap (λ ls. among (ids_of ls) q) loans_are ∙ none_its q));
        }
          where
            not_same : (a b : Bool) → not a ≡ not b → a ≡ b
            not_same true true is = refl
            not_same true false is = absurd (true≢false (sym is))
            not_same false true is = absurd (true≢false is)
            not_same false false is = refl

        pub knows_all : Knows (reach_of tree) (footprint_of own request.ordinal a.core.part.time request.bytes)
        knows_all = subst (Knows (reach_of tree)) (sym its_foot) (whole_known f all)
          where
            whole_known : (g : Footprint) → is_whole g ≡ true → Knows (reach_of tree) g
            whole_known (known reads writes) is = absurd (true≢false (sym is))
            whole_known whole is = is_whole_tree

      -- What it leaves
      module _ (new : Slots) (reply : Vec ℕ Global) (answers : ◌≡◌ {A = Inodes × List ℕ} (at_home new, reply.items) (answer own request.ordinal a.core.part.time request.bytes))
          (still_out : (q : ℕ) → is_some (get (lent new) q) ≡ cond (among (ids_of loans) q) false (is_some (get (lent tree) q))) where
        abbrev left : Inodes
        left = (answer own request.ordinal a.core.part.time request.bytes).0

        -- what it does not write stays
        stays : (q : ℕ) → is_written f q ≡ false → get left q ≡ get home q
        stays q misses =
            ap (λ outcome. get outcome.0 q) (requests_keep_to_footprints own own request.ordinal a.core.part.time request.bytes (λ id touched. refl))
            ∙ get-closed (footprint_of own request.ordinal a.core.part.time request.bytes) left own q
            ∙ ap (λ b. cond b (get left q) (get own q)) (ap (λ g. is_written g q) its_foot ∙ misses)
            ∙ get_borrowed loans home q (owns.1 q ∙ moved_is_written f q misses)

        closed_is : closed f left home ≡ left
        closed_is = same_inodes _ _ (λ q. get-closed f left home q ∙ by_test q (is_written f q) refl)
          where
            by_test : (q : ℕ) (b : Bool) → is_written f q ≡ b → cond b (get left q) (get home q) ≡ get left q
            by_test q true it = refl
            by_test q false it = sym (stays q it)

        outcome_is : outcome_of m a.number ≡ answer own request.ordinal a.core.part.time request.bytes
        outcome_is = λ i. answer (handed_is i) (request.asks i).ordinal (request.asks i).time (request.asks i).bytes

        pub finished_seen : seen_at a.core new (with_state (Finished reply)) ≡ after_finish m a.number
        finished_seen = λ i. record {
          first = a.core.part.first;
          ordinal = a.core.part.ordinal;
          time = a.core.part.time;
          requests = requests_with (Finished reply) i;
          home = home_is i;
          standings = (seen_with (Finished reply) ∙ ap (λ s. set (map standing_seen calls) place s) standing_is) i;
        }
          where
            home_is : at_home new ≡ closed (standing_of m a.number).footprint (outcome_of m a.number).0 home
            home_is = ap (λ outcome. outcome.0) answers ∙ sym closed_is ∙ (λ i. closed (sym foot i) (sym outcome_is i).0 home)

            standing_is : ◌≡◌ {A = Standing} (record { footprint = f; slot = finished reply.items }) (record { footprint = (standing_of m a.number).footprint; slot = finished (outcome_of m a.number).1 })
            standing_is = λ i. record { footprint = sym foot i; slot = finished ((ap (λ outcome. outcome.1) answers ∙ ap (λ outcome. outcome.1) (sym outcome_is)) i) }

        pub finished_running : IsRunning new (with_state (Finished reply)) (seen_at a.core new (with_state (Finished reply)))
        finished_running = record {
          reached = subst IsReached (sym finished_seen) (reached_by_finish m a.number a.run.reached w.none);
          out = λ q. still_out q ∙ by_test q (among (ids_of loans) q) refl;
          own = All-set OwnsWritten calls place (record { footprint = a.call.footprint; state = Finished reply }) tt a.run.own;
        }
          where
            by_test : (q : ℕ) (b : Bool) → among (ids_of loans) q ≡ b → cond b false (is_some (get (lent tree) q)) ≡ list_any (has q) (with_state (Finished reply))
            by_test q true its = sym (none_left (has q) calls place (record { footprint = a.call.footprint; state = Finished reply }) refl
                (lack q (written_is_touched f q (moved_written f q (sym (owns.1 q) ∙ its)))))
            by_test q false its = a.run.out q ∙ sym (any_kept (has q) calls place a.call (record { footprint = a.call.footprint; state = Finished reply }) a.there (ap (λ s. among (lent_for s) q) w.lent ∙ its) refl)
