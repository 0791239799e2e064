-- What waits at the primary is proposed, and each member comes to execute it.
use Rattle.std.proofs.Common.{◌≡◌, ℕ, zero, suc, ◌+◌, ◌-◌, ◌<◌, ◌≤◌, Bool, true, false, cond, List, [], ◌∷◌, ◌++◌, Some, None, option_map, inl, inr, refl, sym, ap, ap₂, subst, ◌==◌, ◌∙◌, append_assoc, arith}
use Rattle.std.specs.Prelude.{nat_le, not}
use Rattle.std.proofs.lemmas.Bool.{and_from, cases_lt, eq-eqb, le-leb}
use Rattle.bfs_log.specs.Headers.{header}
use Rattle.bfs_log.specs.Logs.{Log, batch_in, message_at}
use Rattle.bfs_messages.specs.Messages.{Batch}
use Rattle.bfs_messages.specs.declared.order_messages.OrderMessage.{OrderMessage}
use Rattle.bfs_messages.specs.declared.signed.Signed.{Signed}
use Rattle.bfs_model.specs.Server.Limits.{log_size, most_number}
use Rattle.bfs_model.specs.Server.Stored.{IsTime}
use Rattle.bfs_model.specs.Server.Tree.{Time}
use Rattle.bfs_order.specs.Replica.Proposing as order
use Rattle.bfs_order.specs.Replica.Proposing.{batch_digest, leads, next_number, proposal, proposal_commits}
use Rattle.bfs_order.specs.Replica.States.{State, known, with_message}
use Rattle.bfs_order.specs.declared.error.OrderError.TheVariants.{NotPrimary, OutsideMarks}
use Rattle.bfs_votes.specs.Votes.{Told, is_slot, primary, replicas}
use Rattle.bfs_agreement.specs.Histories.{IsIn}
use Rattle.bfs_agreement.specs.Moves.{new_world}
use Rattle.bfs_node.specs.Proposing.{pending_batch, proposal_refusal, proposed}
use Rattle.bfs_node.specs.Errors.{of_order}
use Rattle.bfs_node.specs.Nodes.{Node}
use Rattle.bfs_nodes_agree.specs.Nodes.Laws.{BatchesDontCollide, Executed, StepsAreTurns}
use Rattle.bfs_nodes_agree.specs.Nodes.Replicas.{Beginning, Keyring, NodeReplica, NodeReplicas, NodeTurn, after_node_step, after_node_turn, after_node_turns, new_node_replicas}
use Rattle.bfs_nodes_agree.specs.Nodes.Resending.{WhatIsResentIsFair}
use Rattle.bfs_nodes_agree.specs.Nodes.Steps.{Executes, Proposes, outcome, unless}
use Rattle.bfs_nodes_agree.proofs.Public.{both_at, either_in, here_after, some_is}
use Rattle.bfs_nodes_progress.specs.Executing.{AreCommitted}
use Rattle.bfs_nodes_progress.specs.Inside.Below.{Below}
use Rattle.bfs_nodes_progress.specs.Members.{is_committed}
use Rattle.bfs_nodes_progress.specs.Requests.{HasExecuted, IsReadyFor, executions, proposing}
use Rattle.bfs_nodes_progress.specs.Runs.{IsARun, order_of, reached}
use Rattle.bfs_nodes_progress.proofs.Public.{AreOf, Leads, after_join, always, each_once, requests_are_executed, same_f, same_me}
use Rattle.bfs_liveness.specs.Even.{AreEven}
use Rattle.bfs_liveness.specs.Exchanges.{all_execute, exchange, hearing_and_executing, ordering, three_exchanges}
use Rattle.bfs_liveness.specs.LawsOfExecuting.{HasJustExecuted, HasPlace, NoneIsBeyond, NoneIsLeftOut, SomeIsProposed, WhatWaitsIsExecuted}
use Rattle.bfs_liveness.specs.Ways.{AllSignOf, AreFairTo, IsWay, MayTake}
use Rattle.bfs_liveness.proofs.Executions.{IsExecuted, all_run, executed_below, executed_to, number_of}
use Rattle.bfs_liveness.proofs.Lists.{out_of_each, out_of_where}
use Rattle.bfs_liveness.proofs.Proposed.{found_told, proposes_found}
use Rattle.bfs_liveness.proofs.Steps.{Goes, HaveExchanged, commits, even_on, goes_by, proposed_on, room_in, thrice}
use Rattle.bfs_liveness.proofs.Ways.{ways_join}
use Rattle.bfs_liveness.proofs.Votes.{HasHeard, HaveHeard, IsHearing, all_then, find_more, heard_itself, more_itself, more_then}

-- A proposal ----------------------------------------------------------------------------------------------------------

hears_itself : (r : NodeReplica) (time : Time) → HasHeard r (after_node_step r (Proposes time))
hears_itself r time =
    let node = r.node in
    let s = node.order in
    let m = proposal node.keys s (pending_batch node time) in
    let is : IsHearing node (outcome node (Proposes time)).now = elim (proposal_refusal node) as (λ o. IsHearing node (unless o node (proposed node time)).now) [
      | None ↦ record {
        order = more_then s (with_message s m) (proposed node time).now.order (m ∷ [], refl) (proposal_commits node.keys s (pending_batch node time), refl);
        keys = refl;
        files = refl;
        pending = refl;
      }
      | Some e ↦ record { order = more_itself s; keys = refl; files = refl; pending = refl }
    ] in
    record { order = is.order; keys = is.keys; files = is.files; pending = is.pending; executed = refl }

pub proposing_heard : (f view : ℕ) (time : Time) (w : NodeReplicas) → HaveHeard w (after_node_turns w (proposing f view time))
proposing_heard f view time w =
    both_at w (record { who = primary f view; step = Proposes time }) (λ k r. HasHeard (w k) r) (hears_itself (w (primary f view)) time) (λ k. heard_itself (w k))

may_propose : (node : Node) → node.order.me ≡ primary node.order.f node.order.view → node.order.asked ≤ node.order.view → HasPlace node.order.low (next_number node.order) → proposal_refusal node ≡ None
may_propose node me asked place =
    let s = node.order in
    let led = and_from (s.me == primary s.f s.view) (nat_le s.asked s.view) (eq-eqb s.me (primary s.f s.view) me) (le-leb s.asked s.view asked) in
    let room = and_from (nat_le (next_number s) (s.low + log_size)) (nat_le (next_number s) most_number) (le-leb (next_number s) (s.low + log_size) place.0) (le-leb (next_number s) most_number place.1) in
    let none : order.proposal_refusal s ≡ None = ap₂ (λ (a b : Bool). cond (not a) (Some NotPrimary) (cond (not b) (Some OutsideMarks) None)) led room in
    ap (option_map of_order) none

-- Executions ----------------------------------------------------------------------------------------------------------

executes_only : (k count : ℕ) (turn : NodeTurn) → IsIn turn (executions k count) → (turn.who ≡ k) × (turn.step ≡ Executes)
executes_only k zero turn i = absurd i
executes_only k (suc count) turn i = elim (either_in (executions k count) (record { who = k; step = Executes } ∷ []) turn i) [
  | inl before ↦ executes_only k count turn before
  | inr last ↦ elim last [ inl same ↦ (ap (λ (x : NodeTurn). x.who) same, ap (λ (x : NodeTurn). x.step) same) | inr none ↦ absurd none ]
]

-- a member's call that executes
abbrev IsExecution : (members : ℕ → Bool) → NodeTurn → Type 0
IsExecution members turn = (members turn.who ≡ true) × (turn.step ≡ Executes)

module _ (members : ℕ → Bool) where
  pub may_execute : (turns : List NodeTurn) → ((turn : NodeTurn) → IsIn turn turns → IsExecution members turn) → (w : NodeReplicas) → IsWay members w turns
  may_execute [] only w = tt
  may_execute (turn ∷ turns) only w =
      let first = only turn (inl refl) in
      (first.0, subst (MayTake members w turn.who) (sym first.1) tt, may_execute turns (λ x i. only x (inr i)) (after_node_turn w turn))

module _ (f : ℕ) (members : ℕ → Bool) (w : NodeReplicas) (number : ℕ) where
  -- those of one
  abbrev of_one : ℕ → List NodeTurn
  of_one k = cond (members k) (executions k (number - (order_of w k).last)) []

  pub only_executions : (turn : NodeTurn) → IsIn turn (all_execute f members w number) → IsExecution members turn
  only_executions turn i =
      let to = out_of_each of_one (replicas f) turn i in
      let there = out_of_where (members to.0) (executions to.0 (number - (order_of w to.0).last)) turn to.2 in
      let is = executes_only to.0 (number - (order_of w to.0).last) turn there.1 in
      (ap members is.0 ∙ there.0, is.1)

  own : (k : ℕ) → AreOf k (of_one k)
  own k turn i =
      let there = out_of_where (members k) (executions k (number - (order_of w k).last)) turn i in
      (executes_only k (number - (order_of w k).last) turn there.1).0

  -- each comes to what it does by its own
  pub each_executes : (k : ℕ) → members k ≡ true → k < replicas f → after_node_turns w (all_execute f members w number) k ≡ after_node_turns w (executions k (number - (order_of w k).last)) k
  each_executes k member low =
      each_once w of_one own (replicas f) k low ∙ ap (λ (b : Bool). after_node_turns w (cond b (executions k (number - (order_of w k).last)) []) k) member

-- All of it -----------------------------------------------------------------------------------------------------------

-- a way behind which each has just executed that batch as the number
abbrev AreOrdered : (f : ℕ) → Keyring → Beginning → (faulty members : ℕ → Bool) → (turns : List NodeTurn) → (number : ℕ) → Batch → (way : List NodeTurn) → Type 0
AreOrdered f keys start faulty members turns number batch way =
    IsWay members (reached f keys start turns) way × IsARun f keys start faulty (turns ++ way)
    × ((k : ℕ) → members k ≡ true → HasJustExecuted (reached f keys start (turns ++ way) k) number batch)

module _ (laws : Below) (again : WhatIsResentIsFair) (left_out : NoneIsLeftOut) (beyond : NoneIsBeyond) (are : StepsAreTurns)
    (f : ℕ) (keys : Keyring) (start : Beginning) (faulty members : ℕ → Bool) (turns : List NodeTurn) (view low : ℕ) (time : Time)
    (run : IsARun f keys start faulty turns) (fair : AreFairTo f keys start faulty members turns) (even : AreEven f faulty members (reached f keys start turns) view low)
    (place : HasPlace low (next_number (order_of (reached f keys start turns) (primary f view))))
    (sign : AllSignOf members (reached f keys start turns) (next_number (order_of (reached f keys start turns) (primary f view)))) (is_time : IsTime time) where
  abbrev begun : NodeReplicas
  begun = new_node_replicas f keys start

  abbrev p : ℕ
  p = primary f view

  abbrev w : NodeReplicas
  w = reached f keys start turns

  abbrev node : Node
  node = (w p).node

  abbrev number : ℕ
  number = next_number node.order

  abbrev batch : Batch
  batch = pending_batch node time

  abbrev digest : List ℕ
  digest = batch_digest batch

  abbrev call : List NodeTurn
  call = proposing f view time

  abbrev given : List NodeTurn
  given = turns ++ call

  abbrev w1 : NodeReplicas
  w1 = reached f keys start given

  abbrev three : List NodeTurn
  three = three_exchanges f members w1

  abbrev end : List NodeTurn
  end = given ++ three

  abbrev last : NodeReplicas
  last = reached f keys start end

  abbrev more : List NodeTurn
  more = all_execute f members last number

  abbrev done : NodeReplicas
  done = reached f keys start (end ++ more)

  abbrev correct : (k : ℕ) → members k ≡ true → faulty k ≡ false
  correct = even.together.quorum.correct

  abbrev leads_it : members p ≡ true
  leads_it = even.together.quorum.leads

  abbrev G : List NodeTurn → Type 0
  G xs = Goes laws again f keys start faulty members xs

  by : (xs ys : List NodeTurn) → G xs → IsWay members (reached f keys start xs) ys → G (xs ++ ys)
  by xs ys goes way = goes_by laws again f keys start faulty members xs ys correct goes way

  goes : G turns
  goes = record { run = run; fair = fair }

  led : Leads f faulty begun new_world w
  led = always laws f faulty run.others run.few keys start turns run.shared run.authentic

  at : w1 ≡ after_node_turns w call
  at = after_join begun turns call

  first : IsWay members w call
  first = (leads_it, (is_time, sign), tt)

  goes1 : G given
  goes1 = by turns call goes first

  proposing_is : HaveHeard w w1
  proposing_is = subst (HaveHeard w) (sym at) (proposing_heard f view time w)

  even1 : AreEven f faulty members w1 view low
  even1 = even_on f faulty members w w1 view low proposing_is even

  have : HaveExchanged laws again f keys start faulty members given low
  have = thrice laws again f keys start faulty members given view low goes1 even1

  end_at : last ≡ after_node_turns w1 three
  end_at = after_join begun given three

  goes2 : G end
  goes2 = by given three goes1 have.way

  even2 : AreEven f faulty members last view low
  even2 = even_on f faulty members w1 last view low have.heard even1

  above : low < number
  above = let lows = even.low p leads_it in omega (arith, lows)

  under : number ≤ low + log_size
  under = place.0

  -- no member has executed the number
  behind : (k : ℕ) → members k ≡ true → (order_of w k).last < number
  behind k x = elim (cases_lt (order_of w k).low (order_of w k).last) [
    | inl over ↦ beyond f keys start faulty turns view k run (correct k x) (correct p leads_it) (even.together.entered k x) (even.together.entered p leads_it) over
    | inr le ↦ let is = even.low k x in let lt = above in omega (arith, le, is, lt)
  ]

  last_is : (k : ℕ) → (order_of last k).last ≡ (order_of w k).last
  last_is k = ap (λ (s : State). s.last) (all_then w w1 last proposing_is have.heard k).order.1

  -- The primary proposes it -------------------------------------------------------------------------------------------

  me_is : node.order.me ≡ p
  me_is = same_me f faulty w led.orders led.world led.facts p

  none : proposal_refusal node ≡ None
  none =
      let entered = even.together.entered p leads_it in
      let asked = even.together.asked p leads_it in
      let lows = even.low p leads_it in
      let me : node.order.me ≡ primary node.order.f node.order.view = me_is ∙ ap₂ primary (sym (same_f f faulty w led.orders led.world led.facts p)) (sym entered) in
      let le = under in
      may_propose node me (omega (arith, entered, asked)) (omega (arith, lows, le), place.1)

  abbrev m : Signed OrderMessage
  m = proposal node.keys node.order batch

  -- and finds it there
  finds : message_at (order_of w1 p).log 2 p view number ≡ Some m
  finds =
      let there : order_of w1 p ≡ (outcome node (Proposes time)).now.order =
      ap (λ (x : NodeReplicas). order_of x p) at ∙ ap (λ (r : NodeReplica). r.node.order) (here_after w (record { who = p; step = Proposes time })) in
      subst (λ (s : State). message_at s.log 2 p view number ≡ Some m) (sym there)
      (subst (λ (j : ℕ). message_at (outcome node (Proposes time)).now.order.log 2 j view number ≡ Some m) me_is
      (subst (λ (u : ℕ). message_at (outcome node (Proposes time)).now.order.log 2 node.order.me u number ≡ Some m) (even.together.entered p leads_it) (proposes_found node time none)))

  is_proposed : SomeIsProposed f w1 view number
  is_proposed =
      let s = order_of w1 p in
      let entered : s.view ≡ view = even1.together.entered p leads_it in
      (digest, subst (λ (u : ℕ). Told (known s) 2 p u number digest) entered (found_told s p number m (subst (λ (u : ℕ). message_at s.log 2 p u number ≡ Some m) (sym entered) finds)))

  -- Each executes it --------------------------------------------------------------------------------------------------

  ready : (k : ℕ) → members k ≡ true → IsReadyFor (last k).node number
  ready k x = record {
    above = let is = last_is k in let lt = behind k x in omega (arith, is, lt);
    between = λ other over less.
        let reach = even2.last k x in
        let behind_p = even.min_s p leads_it in
        let lows = even.low p leads_it in
        let le = under in
        let some = left_out f keys start faulty turns view other run (correct p leads_it) (even.together.entered p leads_it) (omega (arith, reach, over, behind_p, lows)) less in
        let c = commits laws again f keys start faulty members given view low goes1 even1 have other (omega (arith, reach, over)) (omega (arith, less, le)) (proposed_on f w w1 view other proposing_is some) in
        (c.0, subst (λ (u : ℕ). is_committed (order_of last k) u other c.0 ≡ true) (sym (even2.together.entered k x)) (c.1 k x));
  }

  all_committed : (k : ℕ) → members k ≡ true → AreCommitted (last k).node (number - (order_of last k).last)
  all_committed k x n over le =
      let lt = (ready k x).above in
      elim (cases_lt n number) [
        | inl less ↦ (ready k x).between n over less
        | inr high ↦
            let same : number ≡ n = omega (arith, high, le, lt) in
            let c = commits laws again f keys start faulty members given view low goes1 even1 have number above under is_proposed in
            let here : is_committed (order_of last k) (order_of last k).view number c.0 ≡ true = subst (λ (u : ℕ). is_committed (order_of last k) u number c.0 ≡ true) (sym (even2.together.entered k x)) (c.1 k x) in
            (c.0, subst (λ (y : ℕ). is_committed (order_of last k) (order_of last k).view y c.0 ≡ true) same here)
      ]

  abbrev own_turns : ℕ → List NodeTurn
  own_turns k = executions k (number - (order_of last k).last)

  done_at : (k : ℕ) → members k ≡ true → done k ≡ after_node_turns last (own_turns k) k
  done_at k x = ap (λ (y : NodeReplicas). y k) (after_join begun end more) ∙ each_executes f members last number k x (even.together.quorum.among k x)

  -- up to the number
  is_executed : (k : ℕ) → members k ≡ true → IsExecuted (order_of last k) number (done k).node
  is_executed k x =
      let lt = (ready k x).above in
      subst (λ (r : NodeReplica). IsExecuted (order_of last k) number r.node) (sym (done_at k x))
      (executed_to laws f keys start faulty end goes2.run k number (correct k x) (even2.live k x) (omega (arith, lt)) (all_committed k x))

  -- a batch of that digest
  has_executed : (k : ℕ) → members k ≡ true → HasExecuted (done k) number digest
  has_executed k x =
      let one = exchange f members w1 in
      let w2 = after_node_turns w1 one in
      let two = exchange f members w2 in
      let each = requests_are_executed laws f keys start faulty members turns one two (exchange f members (after_node_turns w2 two)) view time k goes2.run none even1.together even2.together
      (room_in f faulty members w1 view low number even1 above under) (room_in f faulty members last view low number even2 above under)
      (have.first number above under) (have.second number above under) (have.third number above under) x (even2.live k x) (ready k x) in
      let here : done k ≡ reached f keys start (end ++ own_turns k) k = done_at k x ∙ sym (ap (λ (y : NodeReplicas). y k) (after_join begun end (own_turns k))) in
      subst (λ (r : NodeReplica). HasExecuted r number digest) (sym here) each

  -- the primary that one which it has proposed
  very : Executed (done p) number batch
  very =
      let x = has_executed p leads_it in
      let from = x.executed.0 in
      let s = order_of last p in
      let number_is : (header from).number ≡ number = number_of from.message (record { number = number; batch = x.batch }) x.executed.2 in
      let ran = all_run more (λ turn i. (only_executions f members last number turn i).1) last p in
      let among : IsIn from (after_node_turns last more p).executed = subst (λ (y : NodeReplicas). IsIn from (y p).executed) (after_join begun end more) x.executed.1 in
      elim (ran.each from among) [
        | inl before ↦
            let early : IsIn from (w p).executed = subst (λ (l : Log). IsIn from l) (all_then w w1 last proposing_is have.heard p).executed before in
            let le = (executed_below are f keys start turns p from early).1 in
            let lt = behind p leads_it in
            absurd (omega (arith, le, lt, number_is))
        | inr found ↦
            let led2 = always laws f faulty goes2.run.others goes2.run.few keys start end goes2.run.shared goes2.run.authentic in
            let q : primary s.f s.view ≡ p = ap₂ primary (same_f f faulty last led2.orders led2.world led2.facts p) (even2.together.entered p leads_it) in
            let here : message_at s.log 2 p view number ≡ Some from = subst (λ (u : ℕ). message_at s.log 2 p u number ≡ Some from) (even2.together.entered p leads_it)
            (subst (λ (j : ℕ). message_at s.log 2 j s.view number ≡ Some from) q (subst (λ (n : ℕ). message_at s.log 2 (primary s.f s.view) s.view n ≡ Some from) number_is found)) in
            let grown = (have.heard p).order in
            let there : message_at s.log 2 p view number ≡ Some m = subst (λ (y : State). message_at y.log 2 p view number ≡ Some m) (sym grown.1)
            (find_more (λ (y : Signed OrderMessage). is_slot 2 p view number (header y)) (order_of w1 p).log grown.0 m finds) in
            let same : m ≡ from = some_is m from (sym there ∙ here) in
            (from, x.executed.1, ap (λ (y : Signed OrderMessage). batch_in y.message) (sym same))
      ]

  then : IsWay members w1 (three ++ more)
  then = ways_join members w1 three more have.way (subst (λ (x : NodeReplicas). IsWay members x more) end_at (may_execute members more (only_executions f members last number) last))

  way : IsWay members w (call ++ (three ++ more))
  way = ways_join members w call (three ++ more) first (subst (λ (x : NodeReplicas). IsWay members x (three ++ more)) at then)

  grouped : (end ++ more) ≡ turns ++ (call ++ (three ++ more))
  grouped = append_assoc given three more ∙ append_assoc turns call (three ++ more)

  -- and so does each: no two batches have one digest
  just : (k : ℕ) → members k ≡ true → HasJustExecuted (done k) number batch
  just k x =
      let is = is_executed k x in
      let has = has_executed k x in
      let apart = subst (λ (xs : List NodeTurn). BatchesDontCollide faulty (reached f keys start xs)) (sym grouped) (fair.batches (call ++ (three ++ more)) way) in
      let same : has.batch ≡ batch = apart k p number has.batch batch (correct k x) (correct p leads_it) has.executed very has.is in
      record { executed = subst (Executed (done k) number) same has.executed; last = ap (λ (s : State). s.last) is.order; live = is.live }

  whole : AreOrdered f keys start faulty members turns number batch (call ++ (three ++ more))
  whole = (
    way,
    (by turns (call ++ (three ++ more)) goes way).run,
    subst (λ (xs : List NodeTurn). (k : ℕ) → members k ≡ true → HasJustExecuted (reached f keys start xs k) number batch) grouped just,
  )

  pub orders : AreOrdered f keys start faulty members turns number batch (ordering f members w view time)
  orders =
      let heard : AreOrdered f keys start faulty members turns number batch (call ++ hearing_and_executing f members w1 number) =
      subst (λ (y : NodeReplicas). AreOrdered f keys start faulty members turns number batch (call ++ (three ++ all_execute f members y number))) end_at whole in
      subst (λ (x : NodeReplicas). AreOrdered f keys start faulty members turns number batch (call ++ hearing_and_executing f members x number)) at heard

pub what_waits_is_executed : Below → WhatIsResentIsFair → NoneIsLeftOut → NoneIsBeyond → StepsAreTurns → WhatWaitsIsExecuted
what_waits_is_executed laws again left_out beyond are f keys start faulty members turns view low time run fair even place sign is_time =
    orders laws again left_out beyond are f keys start faulty members turns view low time run fair even place sign is_time
