-- Replicas that execute side by side come to what they come to one after another.
use Rattle.std.proofs.Common.{◌≡◌, ◌∙◌, Bool, true, false, true≢false, is_some, ℕ, ◌<◌, ◌≤◌, ◌+◌, zero, suc, List, [], ◌∷◌, ◌++◌, length, get_or, map, take, drop, Option, Some, None, Result, Ok, Err, All, refl, sym, ap, subst, arith}
use Rattle.std.specs.Prelude.{IsSome, OnOk, if◌then◌else◌}
use Rattle.std.specs.List.{AllZip, fold, list_any, slice_get, slice_set}
use Rattle.std.proofs.lemmas.Bool.{le-ltb}
use Rattle.std.proofs.lemmas.List.Elements.{All-tail}
use Rattle.std.proofs.lemmas.List.{append-nil, append_assoc, drop_all, get_or-set_same, length-append, length-set, set-set, set_at, take_all}
use Rattle.std.proofs.lemmas.Option.{same_Some, slice_get-get_or}
use Rattle.bfs_model.specs.Bytes.Call.{◌>>=◌}
use Rattle.bfs_node.specs.Advancing.{advancing}
use Rattle.bfs_node.specs.Nodes.{Messages, Node, Outcome}
use Rattle.bfs_cluster.proofs.Acting.{at_number, beside, in_turn, sent_beside, with_itself}
use Rattle.bfs_cluster.proofs.Settling.{at_delivery, at_turn, by_both, by_one, one_step}
use Rattle.bfs_cluster.specs.Inside.Acts.{Acts, doing}
use Rattle.bfs_cluster.specs.Inside.Aside.{AreBack, CameOut, CameTo, Comes, Goes, Ran, RunsOut, back, posted_all, sent_by}
use Rattle.bfs_cluster.specs.Inside.Requests.{with_requests}
use Rattle.bfs_cluster.specs.Steps.{after, has_ready, step, turn_taken, turning}
use Rattle.bfs_cluster.specs.World.{Replica, World, node_if_heard, posted, with_node}
use Rattle.bfs_cluster.specs.declared.side_by_side.Busy.{Busy}

-- One more batch -------------------------------------------------------------------------------------------------------------

module _ (Executes : Node → Type 0) where
  pub ran_more : (all : List Messages) (first : Messages) (old now next : Replica) → Ran Executes all old now → Acts (doing advancing now) now next (Some first) → Executes now.node
      → Ran Executes (all ++ first ∷ []) old next
  ran_more [] first old now next so_far did here = subst (λ (from : Replica). Ran Executes (first ∷ []) from next) so_far (next, did, here, refl)
  ran_more (sent ∷ all) first old now next so_far did here = (so_far.0, so_far.1, so_far.2, ran_more all first so_far.0 now next so_far.3 did here)

-- What is sent does not depend on the replicas ----------------------------------------------------------------------------

all_beside : (replicas : List Replica) (turn : Option ℕ) (sender : ℕ) (world : World) (all : List Messages)
    → posted_all sender (beside replicas turn world) all ≡ beside replicas turn (posted_all sender world all)
all_beside replicas turn sender world [] = refl
all_beside replicas turn sender world (sent ∷ all) =
    ap (λ (w : World). posted_all sender w all) (sent_beside replicas turn sender world sent) ∙ all_beside replicas turn sender (fold (posted sender) world sent) all

-- One replica's turn -------------------------------------------------------------------------------------------------------

-- a step of the replica whose turn it is
takes : (world : World) (n : ℕ) (old : Replica) → world.turn ≡ Some n → n < length world.replicas → slice_get world.replicas n ≡ Some old
    → (ran : Option Outcome) → doing advancing old ≡ ran → after (suc zero) world ≡ turn_taken world n ran
takes world n old turn within is ran did =
    one_step world (turning world n) (rw turn refl)
    ∙ in_turn world n within ∙ ap (turn_taken world n) (at_number advancing world n old is ∙ did)

there : (replicas : List Replica) (n : ℕ) (replica : Replica) → n < length replicas → slice_get (slice_set replicas n replica) n ≡ Some replica
there replicas n replica within =
    slice_get-get_or (slice_set replicas n replica) n replica (let long : length (slice_set replicas n replica) ≡ length replicas = length-set replicas n replica in omega (arith, long, within))
    ∙ ap (λ (r : Replica). Some r) (get_or-set_same replicas n replica replica within)

heard_node : (old : Replica) (node : Node) → node_if_heard (Some old) ≡ Some node → old.node ≡ node
heard_node old node = go old.heard
  where
    go : (heard : Bool) → (if heard then Some old.node else None) ≡ Some node → old.node ≡ node
    go true there = same_Some _ _ there
    go false there = absurd (let never : None ≡ Some node = there in cc)

module _ (Executes : Node → Type 0) where
  nothing_left : (old : Replica) → doing advancing old ≡ None → (node : Node) → node_if_heard (Some old) ≡ Some node → IsSome (advancing node) → Executes node
  nothing_left old ended node there some =
      let none : advancing node ≡ None = sym (ap (λ (found : Option Node). found >>= advancing) there) ∙ ended in
      absurd (true≢false (sym some ∙ ap is_some none))

  one_turn : (all : List Messages) (world : World) (n : ℕ) (old new : Replica) → world.turn ≡ Some n → n < length world.replicas → slice_get world.replicas n ≡ Some old
      → Ran Executes all old new → doing advancing new ≡ None
      → Comes Executes world (beside (slice_set world.replicas n new) (Some (n + 1)) (posted_all n world all))
  one_turn [] world n old new turn within is ran ended =
      let left : doing advancing old ≡ None = ap (doing advancing) (sym ran) ∙ ended in
      by_one Executes world (beside (slice_set world.replicas n new) (Some (n + 1)) world)
      (takes world n old turn within is None left
      ∙ ap (λ (replicas : List Replica). record world { replicas = replicas; turn = Some (n + 1) })
      (sym (ap (λ (w : World). w.replicas) (with_itself world n new (is ∙ ap (λ (r : Replica). Some r) (sym ran))))))
      (at_turn Executes world n (node_if_heard (Some old)) turn (ap node_if_heard is) (nothing_left old left))
  one_turn (first ∷ rest) world n old new turn within is ran ended =
      let long : length (slice_set world.replicas n ran.0) ≡ length world.replicas = length-set world.replicas n ran.0 in
      by_both Executes world next end
      (by_one Executes world next (goes (doing advancing old) refl ran.1)
      (at_turn Executes world n (node_if_heard (Some old)) turn (ap node_if_heard is) (λ node there some. subst Executes (heard_node old node there) ran.2)))
      (subst (Comes Executes next) same (one_turn rest next n ran.0 new turn (omega (arith, long, within)) (there world.replicas n ran.0 within) ran.3 ended))
    where
      next : World
      next = beside (slice_set world.replicas n ran.0) world.turn (fold (posted n) world first)

      end : World
      end = beside (slice_set world.replicas n new) (Some (n + 1)) (posted_all n world (first ∷ rest))

      same : beside (slice_set next.replicas n new) (Some (n + 1)) (posted_all n next rest) ≡ end
      same =
          ap (λ (w : World). beside (slice_set (slice_set world.replicas n ran.0) n new) (Some (n + 1)) w)
          (all_beside (slice_set world.replicas n ran.0) world.turn n (fold (posted n) world first) rest)
          ∙ ap (λ (replicas : List Replica). beside replicas (Some (n + 1)) (posted_all n world (first ∷ rest))) (set-set world.replicas n ran.0 new)

      goes : (done : Option Outcome) → doing advancing old ≡ done → Acts done old ran.0 (Some first) → after (suc zero) world ≡ next
      goes None did acts = absurd (let never : Some first ≡ None = acts.1 in cc)
      goes (Some done) did acts =
          let sent : done.sent ≡ first = cc in
          takes world n old turn within is (Some done) did
          ∙ ap (fold (posted n) (with_node world n done.now)) sent
          ∙ ap (λ (r : Replica). fold (posted n) (record world { replicas = slice_set world.replicas n r }) first) (sym acts.0)
          ∙ sent_beside (slice_set world.replicas n ran.0) world.turn n world first

past : (world : World) (n : ℕ) → length world.replicas ≤ n → turning world n ≡ record world { turn = None }
past world n behind = rw (le-ltb n (length world.replicas) behind) refl

-- All turns ----------------------------------------------------------------------------------------------------------------

middle : (front : List Replica) (old : Replica) (olds : List Replica) → slice_get (front ++ old ∷ olds) (length front) ≡ Some old
middle [] old olds = refl
middle (first ∷ front) old olds = middle front old olds

beyond : (front : List Replica) → slice_get front (length front) ≡ None
beyond [] = refl
beyond (first ∷ front) = beyond front

abbrev pub RanOut : (Executes : Node → Type 0) → Replica → Busy → Type 0
RanOut Executes old one = RunsOut Executes (sent_by one) old one.replica

all_turns : (Executes : Node → Type 0) (busy : List Busy) (olds front : List Replica) (world : World) → world.replicas ≡ front ++ olds → world.turn ≡ Some (length front)
    → AllZip (RanOut Executes) olds busy → Comes Executes world (fold back (beside front None world) busy)
all_turns Executes [] (old ∷ olds) front world are turn ran = absurd ran
all_turns Executes (one ∷ busy) [] front world are turn ran = absurd ran
all_turns Executes [] [] front world are turn ran =
    let all : world.replicas ≡ front = are ∙ append-nil front in
    by_one Executes world (beside front None world)
    (one_step world (turning world (length front)) (rw turn refl)
    ∙ past world (length front) (omega (arith, let long : length world.replicas ≡ length front = ap length all in long))
    ∙ ap (λ (replicas : List Replica). record world { replicas = replicas; turn = None }) all)
    (at_turn Executes world (length front) None turn
    (ap (λ (replicas : List Replica). node_if_heard (slice_get replicas (length front))) all ∙ ap node_if_heard (beyond front))
    (λ node there some. absurd (let never : None ≡ Some node = there in cc)))
all_turns Executes (one ∷ busy) (old ∷ olds) front world are turn ran =
    let n : ℕ = length front in
    let sent : List Messages = sent_by one in
    let replica : Replica = one.replica in
    let next : World = beside (slice_set world.replicas n replica) (Some (n + 1)) (posted_all n world sent) in
    let longer : length (front ++ replica ∷ []) ≡ n + 1 = length-append front (replica ∷ []) in
    let within : n < length world.replicas =
    let long : length world.replicas ≡ length front + length (old ∷ olds) = ap length are ∙ length-append front (old ∷ olds) in
    omega (arith, long) in
    let placed : slice_set world.replicas n replica ≡ (front ++ replica ∷ []) ++ olds =
    ap (λ (replicas : List Replica). slice_set replicas n replica) are ∙ set_at front old olds replica n refl ∙ sym (append_assoc front (replica ∷ []) olds) in
    by_both Executes world next (fold back (beside front None world) (one ∷ busy))
    (one_turn Executes sent world n old replica turn within (ap (λ (replicas : List Replica). slice_get replicas n) are ∙ middle front old olds) ran.0.0 ran.0.1)
    (subst (Comes Executes next) (ap (λ (w : World). fold back w busy) (sym (all_beside (front ++ replica ∷ []) None n world sent)))
    (all_turns Executes busy olds (front ++ replica ∷ []) next placed (ap (λ (k : ℕ). Some k) (sym longer)) ran.1))

-- what was written over a whole vector
pub written : {X : Type 0} (old new : List X) (n : ℕ) → length new ≡ length old → n ≡ length old → take n (new ++ drop (length new) old) ≡ new
written old new n long all =
    ap (λ (rest : List _). take n (new ++ rest)) (drop_all (length new) old (omega (arith, long))) ∙ ap (take n) (append-nil new) ∙ take_all n new (omega (arith, long, all))

-- That came of them ----------------------------------------------------------------------------------------------------------

-- what is said place by place
pub from_places : {X : Type 0} (R : X → X → Type 0) (xs ys : List X) → length ys ≡ length xs
    → ((i : ℕ) (d : X) → i < length xs → R (get_or xs i d) (get_or ys i d)) → AllZip R xs ys
from_places R [] [] long each = tt
from_places R [] (y ∷ ys) long each = absurd (let no : suc (length ys) ≡ zero = long in cc)
from_places R (x ∷ xs) [] long each = absurd (let no : zero ≡ suc (length xs) = long in cc)
from_places R (x ∷ xs) (y ∷ ys) long each =
    (each zero x (omega arith), from_places R xs ys (omega (arith, long)) (λ i d within. each (suc i) d (omega (arith, within))))

ran_out : (Executes : Node → Type 0) (before now : List Busy) → AllZip (CameOut Executes) before now → AreBack now
    → AllZip (RanOut Executes) (map (λ one. one.replica) before) now
ran_out Executes [] [] came all = tt
ran_out Executes [] (one ∷ now) came all = came
ran_out Executes (old ∷ before) [] came all = came
ran_out Executes (old ∷ before) (one ∷ now) came all =
    (subst (λ result. OnOk result (RunsOut Executes (sent_by one) old.replica one.replica)) all.0 came.0, ran_out Executes before now came.1 all.1)

-- all have executed what was ready
pub have_executed : (Executes : Node → Type 0) (world : World) (before now : List Busy) → world.turn ≡ None → map (λ one. one.replica) before ≡ world.replicas
    → AllZip (CameOut Executes) before now → AreBack now → Goes Executes true (record world { turn = Some 0 }) (fold back (record world { replicas = [] }) now)
have_executed Executes world before now turn are came all =
    subst (λ (none : Option ℕ). Goes Executes true (record world { turn = Some 0 }) (fold back (record world { replicas = []; turn = none }) now)) (sym turn)
    (all_turns Executes now (map (λ one. one.replica) before) [] (record world { turn = Some 0 }) (sym are) refl (ran_out Executes before now came all))

pub came_back : {first world end : World} {given now : List Busy} → given ≡ now → first ≡ world → end ≡ fold back first given → end ≡ fold back world now
came_back {first} {world} {end} {given} {now} all same is = is ∙ ap (fold back first) all ∙ ap (λ (w : World). fold back w now) same

-- all have taken requests, and send nothing
pub have_received : (messages : Messages) (before now : List Busy) (front : List Replica) (world : World) → AllZip (CameTo messages) before now → AreBack now
    → All (λ one. one.sent.items ≡ []) before
    → fold back (record world { replicas = front }) now ≡ record world { replicas = front ++ map (with_requests messages) (map (λ one. one.replica) before) }
have_received messages [] [] front world came all none = ap (λ (replicas : List Replica). record world { replicas = replicas }) (sym (append-nil front))
have_received messages [] (one ∷ now) front world came all none = absurd came
have_received messages (old ∷ before) [] front world came all none = absurd came
have_received messages (old ∷ before) (one ∷ now) front world came all none =
    let is : one.replica ≡ with_requests messages old.replica = subst (λ result. OnOk result (one.replica ≡ with_requests messages old.replica)) all.0 came.0.0 in
    let none_first : old.sent.items ≡ [] = none zero old (omega arith) in
    let quiet : sent_by one ≡ [] = ap (λ sent. map (λ log. log.items) sent.items) came.0.1 ∙ ap (map (λ log. log.items)) none_first in
    let first : back (record world { replicas = front }) one ≡ record world { replicas = front ++ with_requests messages old.replica ∷ [] } =
    ap (posted_all (length front) (record world { replicas = front ++ one.replica ∷ [] })) quiet
    ∙ ap (λ (replica : Replica). record world { replicas = front ++ replica ∷ [] }) is in
    ap (λ (w : World). fold back w now) first
    ∙ have_received messages before now (front ++ with_requests messages old.replica ∷ []) world came.1 all.1 (All-tail (λ one. one.sent.items ≡ []) old before none)
    ∙ ap (λ (replicas : List Replica). record world { replicas = replicas }) (append_assoc front (with_requests messages old.replica ∷ []) (map (with_requests messages) (map (λ one. one.replica) before)))

-- They come back --------------------------------------------------------------------------------------------------------------

-- those that are left, and all that there were
abbrev pub ComesBack : (first now : World) (all rest : List Busy) → Type 0
ComesBack first now all rest = (fold back now rest ≡ fold back first all) × (AreBack rest → AreBack all)

pub one_back : {E : Type 0} (before result : Result Unit E) (first old new : World) (all rest left : List Busy) (one : Busy) → left ≡ one ∷ rest
    → OnOk result ((before ≡ Ok tt) × (one.came ≡ Ok tt) × (new ≡ back old one)) → OnOk before (ComesBack first old all left) → OnOk result (ComesBack first new all rest)
one_back before (Err e) first old new all rest left one is put so_far = put
one_back before (Ok u) first old new all rest left one is put so_far =
    let far : ComesBack first old all (one ∷ rest) =
    subst (ComesBack first old all) is (subst (λ result. OnOk result (ComesBack first old all left)) put.0 so_far) in
    (ap (λ (w : World). fold back w rest) put.2 ∙ far.0, λ are. far.1 (put.1, are))

-- The turns begin ----------------------------------------------------------------------------------------------------------

pub turns_begin : (Executes : Node → Type 0) (world next : World) → world.turn ≡ None → world.queue ≡ [] → list_any has_ready world.replicas ≡ true
    → Goes Executes true (record world { turn = Some 0 }) next → Goes Executes true world next
turns_begin Executes world next turn queue ready gone =
    let begins : step world ≡ Some (record world { turn = Some 0 }) = rw turn (rw queue (rw ready refl)) in
    by_both Executes world (record world { turn = Some 0 }) next
    (by_one Executes world (record world { turn = Some 0 }) (one_step world (record world { turn = Some 0 }) begins) (at_delivery Executes world turn)) gone
