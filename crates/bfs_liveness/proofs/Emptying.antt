-- A full window is emptied: all of it is executed, and the checkpoint at its end becomes stable at the primary.
use Rattle.std.proofs.Common.{◌≡◌, ℕ, ◌+◌, ◌-◌, ◌*◌, ◌%◌, ◌<◌, ◌≤◌, ◌==◌, Bool, true, false, cond, not, List, [], ◌∷◌, ◌++◌, Option, Some, None, option_map, inl, inr, refl, sym, ap, subst, ◌∙◌, append_assoc, append-nil, arith}
use Rattle.std.specs.Prelude.{is_some}
use Rattle.std.proofs.lemmas.Bool.{cases_Bool, cases_lt, eq-eqb, eqb-true, le-leb}
use Rattle.bfs_checkpoints.specs.Snapshots.{snapshot_of}
use Rattle.bfs_log.specs.Headers.{header}
use Rattle.bfs_model.specs.Server.Limits.{checkpoint_interval, log_size}
use Rattle.bfs_model.specs.Server.Tree.{FileSystem}
use Rattle.bfs_order.specs.Laws.Logs.{IsInWindow, IsWindowed}
use Rattle.bfs_order.specs.Replica.Checkpoints.{checkpoint_refusal, checkpointed}
use Rattle.bfs_order.specs.Replica.Outcomes as order
use Rattle.bfs_order.specs.Replica.Proposing.{next_number}
use Rattle.bfs_order.specs.Replica.States.{State, known}
use Rattle.bfs_order.specs.declared.error.OrderError.{OrderError}
use Rattle.bfs_votes.specs.Votes.{Told, has_slot, is_stable, primary, replicas, tellers, told}
use Rattle.bfs_votes.proofs.Public.{more}
use Rattle.bfs_agreement.specs.Histories.{IsIn}
use Rattle.bfs_progress.proofs.Public.{slot_told}
use Rattle.bfs_node.specs.Checkpoints as tells
use Rattle.bfs_node.specs.Errors.{of_order}
use Rattle.bfs_node.specs.Nodes.{Node}
use Rattle.bfs_node.specs.declared.error.NodeError.{NodeError}
use Rattle.bfs_node.specs.declared.error.NodeError.TheVariants as error
use Rattle.bfs_nodes_agree.specs.Nodes.Laws.{BatchesDontCollide, NodesAgree, StepsAreTurns}
use Rattle.bfs_nodes_agree.specs.Nodes.Premises.{StatesDontCollide}
use Rattle.bfs_nodes_agree.specs.Nodes.Replicas.{Beginning, Keyring, NodeReplica, NodeReplicas, NodeTurn, after_node_step, after_node_turn, after_node_turns, new_node_replicas, ordered_turns}
use Rattle.bfs_nodes_agree.specs.Nodes.Resending.{WhatIsResentIsFair}
use Rattle.bfs_nodes_agree.specs.Nodes.Steps.{Checkpoints, or_still, outcome, unless}
use Rattle.bfs_nodes_agree.specs.Orders.Replicas.{call_of, new_order_replicas}
use Rattle.bfs_nodes_agree.proofs.Public.{at_in, here_after, in_map}
use Rattle.bfs_nodes_progress.specs.Executing.{AreCommitted}
use Rattle.bfs_nodes_progress.specs.Inside.Below.{Below}
use Rattle.bfs_nodes_progress.specs.Members.{is_committed}
use Rattle.bfs_nodes_progress.specs.Requests.{executions}
use Rattle.bfs_nodes_progress.specs.Runs.{IsARun, order_of, reached}
use Rattle.bfs_nodes_progress.proofs.Public.{AreOf, after_join, always, each_once, same_f, same_me}
use Rattle.bfs_liveness.specs.Exchanges.{all_execute, all_tell, emptying, three_exchanges, told_to}
use Rattle.bfs_liveness.specs.Even.{AreEven}
use Rattle.bfs_liveness.specs.LawsOfExecuting.{FullWindowsAreEmptied, IsEmptied, IsFull, IsSettled, NoneIsBeyond, NoneIsLeftOut, WhatIsStableIsSettled}
use Rattle.bfs_liveness.specs.Ways.{AreFairTo, IsWay, MayTake}
use Rattle.bfs_liveness.proofs.Digests.{same_digests}
use Rattle.bfs_liveness.proofs.Executions.{IsExecuted, executed_to, live_files, turns_keep}
use Rattle.bfs_liveness.proofs.Filled.{greatest_under}
use Rattle.bfs_liveness.proofs.Hearing.{HasHeardAll, IsHearing, all_heard, hearing_nothing}
use Rattle.bfs_liveness.proofs.Lists.{out_of_each, out_of_where}
use Rattle.bfs_liveness.proofs.Ordering.{each_executes, may_execute, only_executions}
use Rattle.bfs_liveness.proofs.Settled.{among}
use Rattle.bfs_liveness.proofs.Steps.{Goes, HaveExchanged, commits, even_on, goes_by, thrice}
use Rattle.bfs_liveness.proofs.Told.{HasTaken, IsToldBy, both_taken, tells_it}
use Rattle.bfs_liveness.proofs.Ways.{passes_now, ways_join}

-- Telling a checkpoint ------------------------------------------------------------------------------------------------

-- a live node that stands at a checkpoint tells it, if it hasn't
record IsTelling (node : Node) (files : FileSystem) (refused : Option OrderError) (now : Node) : Type 0 where
  order : now.order ≡ (order.unless refused node.order (checkpointed node.keys node.order node.order.last (snapshot_of files node.table).digest)).now
  keys : now.keys ≡ node.keys
  files_are : now.files ≡ node.files

tells_so : (node : Node) (files : FileSystem) → node.files ≡ Some files → (node.order.last % checkpoint_interval) ≡ 0 → IsTelling node files (checkpoint_refusal node.order node.order.last) (outcome node Checkpoints).now
tells_so node files is multiple = go ((node.order.last % checkpoint_interval) == 0) node.files (eq-eqb (node.order.last % checkpoint_interval) 0 multiple) is (checkpoint_refusal node.order node.order.last)
  where
    told_at : Option FileSystem → Option OrderError → Option NodeError
    told_at o None = tells.unless_failed o
    told_at o (Some e) = Some (of_order e)

    same : (r : Option OrderError) → tells.told_refusal node r ≡ told_at node.files r
    same None = refl
    same (Some e) = refl

    by_parts : (b : Bool) (o : Option FileSystem) → b ≡ true → o ≡ Some files → (r : Option OrderError)
        → IsTelling node files r (unless (cond (not b) (Some error.OutsideMarks) (told_at o r)) node (or_still node (option_map (tells.checkpointed node) o))).now
    by_parts true (Some x) so e None =
        let same_files : x ≡ files = cc in
        record { order = ap (λ (y : FileSystem). (checkpointed node.keys node.order node.order.last (snapshot_of y node.table).digest).now) same_files; keys = refl; files_are = refl }
    by_parts true (Some x) so e (Some refused) = record { order = refl; keys = refl; files_are = refl }
    by_parts true None so e r = absurd cc
    by_parts false o so e r = absurd cc

    go : (b : Bool) (o : Option FileSystem) → b ≡ true → node.files ≡ Some files → (r : Option OrderError)
        → IsTelling node files r (unless (cond (not b) (Some error.OutsideMarks) (tells.told_refusal node r)) node (or_still node (option_map (tells.checkpointed node) node.files))).now
    go b o so e r = subst (λ (x : Option NodeError). IsTelling node files r (unless (cond (not b) (Some error.OutsideMarks) x) node (or_still node (option_map (tells.checkpointed node) node.files))).now) (sym (same r)) (by_parts b node.files so e r)

module _ (f : ℕ) (members : ℕ → Bool) where
  pub only_tells : (turn : NodeTurn) → IsIn turn (all_tell f members) → (members turn.who ≡ true) × (turn.step ≡ Checkpoints)
  only_tells turn i =
      let to = out_of_each (λ k. cond (members k) (record { who = k; step = Checkpoints } ∷ []) []) (replicas f) turn i in
      let there = out_of_where (members to.0) (record { who = to.0; step = Checkpoints } ∷ []) turn to.2 in
      elim there.1 [ inl same ↦ (ap (λ (x : NodeTurn). members x.who) same ∙ there.0, ap (λ (x : NodeTurn). x.step) same) | inr none ↦ absurd none ]

  may_tell : (turns : List NodeTurn) → ((turn : NodeTurn) → IsIn turn turns → (members turn.who ≡ true) × (turn.step ≡ Checkpoints)) → (w : NodeReplicas) → IsWay members w turns
  may_tell [] only w = tt
  may_tell (turn ∷ turns) only w =
      let first = only turn (inl refl) in
      (first.0, subst (MayTake members w turn.who) (sym first.1) tt, may_tell turns (λ x i. only x (inr i)) (after_node_turn w turn))

  own_tells : (k : ℕ) → AreOf k (cond (members k) (record { who = k; step = Checkpoints } ∷ []) [])
  own_tells k turn i =
      let there = out_of_where (members k) (record { who = k; step = Checkpoints } ∷ []) turn i in
      elim there.1 [ inl same ↦ ap (λ (x : NodeTurn). x.who) same | inr none ↦ absurd none ]

  each_tells : (w : NodeReplicas) (k : ℕ) → members k ≡ true → k < replicas f → after_node_turns w (all_tell f members) k ≡ after_node_step (w k) Checkpoints
  each_tells w k member low =
      each_once w (λ j. cond (members j) (record { who = j; step = Checkpoints } ∷ []) []) own_tells (replicas f) k low
      ∙ ap (λ (b : Bool). after_node_turns w (cond b (record { who = k; step = Checkpoints } ∷ []) []) k) member ∙ here_after w (record { who = k; step = Checkpoints })

-- Orders are settled --------------------------------------------------------------------------------------------------

all_settled : WhatIsStableIsSettled → StepsAreTurns → (f : ℕ) (keys : Keyring) (start : Beginning) (turns : List NodeTurn) (k : ℕ) → IsSettled (order_of (reached f keys start turns) k)
all_settled settles are f keys start turns k =
    subst IsSettled (are f keys start turns k).state
    (turns_keep (λ o. IsSettled o.state) (λ o deed settled. settles.1 o.state (call_of deed) settled) (ordered_turns (new_node_replicas f keys start) turns) (new_order_replicas f) (λ j. settles.0 f j) k)

-- All of it -----------------------------------------------------------------------------------------------------------

module _ (laws : Below) (again : WhatIsResentIsFair) (left_out : NoneIsLeftOut) (beyond : NoneIsBeyond) (settles : WhatIsStableIsSettled) (are : StepsAreTurns) (agree : NodesAgree)
    (f : ℕ) (keys : Keyring) (start : Beginning) (faulty members : ℕ → Bool) (turns : List NodeTurn) (view low : ℕ)
    (run : IsARun f keys start faulty turns) (fair : AreFairTo f keys start faulty members turns) (even : AreEven f faulty members (reached f keys start turns) view low)
    (full : IsFull low (next_number (order_of (reached f keys start turns) (primary f view)))) where
  abbrev begun : NodeReplicas
  begun = new_node_replicas f keys start

  abbrev p : ℕ
  p = primary f view

  -- the end of the window
  abbrev end : ℕ
  end = low + log_size

  abbrev w : NodeReplicas
  w = reached f keys start turns

  abbrev three : List NodeTurn
  three = three_exchanges f members w

  abbrev heard : List NodeTurn
  heard = turns ++ three

  abbrev w1 : NodeReplicas
  w1 = reached f keys start heard

  abbrev more_turns : List NodeTurn
  more_turns = all_execute f members w1 end

  abbrev done : List NodeTurn
  done = heard ++ more_turns

  abbrev w2 : NodeReplicas
  w2 = reached f keys start done

  abbrev telling : List NodeTurn
  telling = done ++ all_tell f members

  abbrev w3 : NodeReplicas
  w3 = reached f keys start telling

  abbrev rest : List NodeTurn
  rest = told_to f members w3 end p

  abbrev ended : List NodeTurn
  ended = telling ++ rest

  abbrev w4 : NodeReplicas
  w4 = reached f keys start ended

  abbrev correct : (k : ℕ) → members k ≡ true → faulty k ≡ false
  correct = even.together.quorum.correct

  abbrev leads : members p ≡ true
  leads = even.together.quorum.leads

  abbrev G : List NodeTurn → Type 0
  G xs = Goes laws again f keys start faulty members xs

  by : (xs ys : List NodeTurn) → G xs → IsWay members (reached f keys start xs) ys → G (xs ++ ys)
  by xs ys goes way = goes_by laws again f keys start faulty members xs ys correct goes way

  goes : G turns
  goes = record { run = run; fair = fair }

  have : HaveExchanged laws again f keys start faulty members turns low
  have = thrice laws again f keys start faulty members turns view low goes even

  goes1 : G heard
  goes1 = by turns three goes have.way

  even1 : AreEven f faulty members w1 view low
  even1 = even_on f faulty members w w1 view low have.heard even

  way2 : IsWay members w1 more_turns
  way2 = may_execute members more_turns (only_executions f members w1 end) w1

  goes2 : G done
  goes2 = by heard more_turns goes1 way2

  -- each has executed up to the end
  executed_here : (k : ℕ) → members k ≡ true → IsExecuted (order_of w1 k) end (w2 k).node
  executed_here k x =
      let before = have.heard k in
      let last_is : (order_of w1 k).last ≡ (order_of w k).last = ap (λ (s : State). s.last) before.order.1 in
      let next = full.to_its_end in
      let behind : (order_of w1 k).last ≤ end = elim (cases_lt (order_of w k).low (order_of w k).last) [
        | inl over ↦
            let lt = beyond f keys start faulty turns view k run (correct k x) (correct p leads) (even.together.entered k x) (even.together.entered p leads) over in
            omega (arith, lt, next, last_is)
        | inr le ↦ let is = even.low k x in omega (arith, le, is, last_is)
      ] in
      let committed : AreCommitted (w1 k).node (end - (order_of w1 k).last) = λ n over le.
      let reach = even1.last k x in
      let under : n ≤ end = omega (arith, le, behind) in
      let above : low < n = omega (arith, reach, over) in
      let lows = even.low p leads in
      let min_s = even.min_s p leads in
      let some = left_out f keys start faulty turns view n run (correct p leads) (even.together.entered p leads) (omega (arith, lows, min_s, above)) (omega (arith, under, next)) in
      let c = commits laws again f keys start faulty members turns view low goes even have n above under some in
      (c.0, subst (λ (u : ℕ). is_committed (order_of w1 k) u n c.0 ≡ true) (sym (even1.together.entered k x)) (c.1 k x)) in
      let got = executed_to laws f keys start faulty heard goes1.run k end (correct k x) (even1.live k x) behind committed in
      let at : w2 k ≡ after_node_turns w1 (executions k (end - (order_of w1 k).last)) k = ap (λ (y : NodeReplicas). y k) (after_join begun heard more_turns) ∙ each_executes f members w1 end k x (even.together.quorum.among k x) in
      subst (λ (r : NodeReplica). IsExecuted (order_of w1 k) end r.node) (sym at) got

  way3 : IsWay members w2 (all_tell f members)
  way3 = may_tell f members (all_tell f members) (only_tells f members) w2

  goes3 : G telling
  goes3 = by done (all_tell f members) goes2 way3

  -- and has told the checkpoint there
  record HasTold (k : ℕ) : Type 0 where
    taken : HasTaken end (order_of w2 k) (order_of w3 k)
    has : has_slot (known (order_of w3 k)) 5 (order_of w3 k).me 0 end ≡ true
    live : is_some (w3 k).node.files ≡ true

  told_here : (k : ℕ) → members k ≡ true → HasTold k
  told_here k x =
      let node = (w2 k).node in
      let s = node.order in
      let is = executed_here k x in
      let last_is : s.last ≡ end = ap (λ (y : State). y.last) is.order in
      let low_is : s.low ≡ low = ap (λ (y : State). y.low) is.order ∙ even1.low k x in
      let files = live_files node.files is.live in
      let so = tells_so node files.0 files.1 (ap (λ (n : ℕ). n % checkpoint_interval) last_is ∙ full.multiple) in
      let at : w3 k ≡ after_node_step (w2 k) Checkpoints = ap (λ (y : NodeReplicas). y k) (after_join begun done (all_tell f members)) ∙ each_tells f members w2 k x (even.together.quorum.among k x) in
      let order_is = ap (λ (r : NodeReplica). r.node.order) at ∙ so.order in
      let bounded = full.bounded in
      let got = tells_it node.keys s s.last (snapshot_of files.0 node.table).digest (omega (arith, last_is, low_is)) (omega (arith, last_is, low_is)) (omega (arith, last_is, bounded)) in
      let taken : HasTaken s.last s (order_of w3 k) = subst (HasTaken s.last s) (sym order_is) got.0 in
      let slot : has_slot (known (order_of w3 k)) 5 s.me 0 s.last ≡ true = subst (λ (y : State). has_slot (known y) 5 s.me 0 s.last ≡ true) (sym order_is) got.1 in
      record {
        taken = subst (λ (n : ℕ). HasTaken n s (order_of w3 k)) last_is taken;
        has = subst (λ (j : ℕ). has_slot (known (order_of w3 k)) 5 j 0 end ≡ true) (sym taken.me) (subst (λ (n : ℕ). has_slot (known (order_of w3 k)) 5 s.me 0 n ≡ true) last_is slot);
        live = ap (λ (r : NodeReplica). is_some r.node.files) at ∙ ap is_some so.files_are ∙ is.live;
      }

  -- before that its low mark was the same
  low_before : (k : ℕ) → members k ≡ true → (order_of w2 k).low ≡ low
  low_before k x = ap (λ (y : State). y.low) (executed_here k x).order ∙ even1.low k x

  lows : (k : ℕ) → members k ≡ true → ((order_of w3 k).low ≤ end) × (end ≤ (order_of w3 k).low + log_size)
  lows k x =
      let before = low_before k x in
      elim (told_here k x).taken.low [
        | inl same ↦ (omega (arith, same, before), omega (arith, same, before))
        | inr risen ↦ (omega (arith, risen), omega (arith, risen))
      ]

  names : (k : ℕ) → (order_of w3 k).me ≡ k
  names k = let led = always laws f faulty goes3.run.others goes3.run.few keys start telling goes3.run.shared goes3.run.authentic in same_me f faulty w3 led.orders led.world led.facts k

  all : HasHeardAll members end p w3 w3 rest (replicas f)
  all = all_heard members end p w3 full.multiple (lows p leads).1 leads (omega arith) (λ k x. (told_here k x).has) names lows
      (λ k m x i sender. (passes_now f keys start members faulty telling goes3.fair).votes k p m x leads i sender) (replicas f) w3 (hearing_nothing members end p w3)

  goes4 : G ended
  goes4 = by telling rest goes3 all.way

  at4 : w4 ≡ after_node_turns w3 rest
  at4 = after_join begun telling rest

  hearing : IsHearing members end p w3 w4
  hearing = subst (IsHearing members end p w3) (sym at4) all.hearing

  -- at the primary
  taken_p : HasTaken end (order_of w2 p) (order_of w4 p)
  taken_p = both_taken end (order_of w2 p) (order_of w3 p) (order_of w4 p) (told_here p leads).taken hearing.taken

  told_by : (k : ℕ) → members k ≡ true → IsToldBy end (order_of w4 p) k
  told_by k x = elim (cases_Bool (k == p)) [
    | inl same ↦
        let is = eqb-true k p same in
        let own : has_slot (known (order_of w3 p)) 5 p 0 end ≡ true = subst (λ (j : ℕ). has_slot (known (order_of w3 p)) 5 j 0 end ≡ true) (names p) (told_here p leads).has in
        subst (IsToldBy end (order_of w4 p)) (sym is) (hearing.taken.keeps p own)
    | inr other ↦ subst (λ (y : NodeReplicas). IsToldBy end (order_of y p) k) (sym at4) (all.told k (even.together.quorum.among k x) x other)
  ]

  -- so the number is stable there
  stable_now : (order_of w4 p).low ≡ end
  stable_now = elim taken_p.low [
    | inr risen ↦ risen
    | inl same ↦
        let s = order_of w4 p in
        let before = low_before p leads in
        let slot : (k : ℕ) → members k ≡ true → has_slot (known s) 5 k 0 end ≡ true = λ k x. elim (told_by k x) [ inl le ↦ absurd (omega (arith, le, same, before)) | inr there ↦ there ] in
        let fair4 = goes4.fair in
        let batches = subst (λ (xs : List NodeTurn). BatchesDontCollide faulty (reached f keys start xs)) (append-nil ended) (fair4.batches [] tt) in
        let states = subst (λ (xs : List NodeTurn). StatesDontCollide faulty (reached f keys start xs)) (append-nil ended) (fair4.states [] tt) in
        let own = slot_told (known s) 5 p 0 end (slot p leads) in
        let each : (k : ℕ) → members k ≡ true → told (known s) 5 k 0 end own.0 ≡ true = λ k x.
        let theirs = slot_told (known s) 5 k 0 end (slot k x) in
        let digest = same_digests laws f keys start faulty ended goes4.run agree batches states p k p end theirs.0 own.0 (correct k x) (correct p leads) theirs.1 own.1 in
        subst (λ (d : List ℕ). Told (known s) 5 k 0 end d) digest theirs.1 in
        let led = always laws f faulty goes4.run.others goes4.run.few keys start ended goes4.run.shared goes4.run.authentic in
        let f_is = same_f f faulty w4 led.orders led.world led.facts p in
        let many = even.together.quorum.enough in
        let most = more members (λ k. told (known s) 5 k 0 end own.0) (replicas f) each in
        let stable : is_stable s.f (known s) end own.0 ≡ true = subst (λ (g : ℕ). is_stable g (known s) end own.0 ≡ true) (sym f_is) (le-leb (2 * f + 1) (tellers f (known s) 5 0 end own.0) (omega (arith, many, most))) in
        let le = all_settled settles are f keys start ended p end own.0 stable in
        absurd (omega (arith, le, same, before))
  ]

  -- and nothing above it is proposed
  next_now : next_number (order_of w4 p) ≤ end + 1
  next_now =
      let s = order_of w4 p in
      let is = (executed_here p leads).order in
      let before = have.heard p in
      let next = full.to_its_end in
      let handed : s.handed ≡ (order_of w p).handed = taken_p.handed ∙ ap (λ (y : State). y.handed) is ∙ ap (λ (y : State). y.handed) before.order.1 in
      let min_s : s.min_s ≡ (order_of w p).min_s = taken_p.min_s ∙ ap (λ (y : State). y.min_s) is ∙ ap (λ (y : State). y.min_s) before.order.1 in
      let led = always laws f faulty goes2.run.others goes2.run.few keys start done goes2.run.shared goes2.run.authentic in
      let windowed = subst IsWindowed (led.facts.right p).tracks.state (led.facts.windowed p) in
      let low_is = low_before p leads in
      let under = greatest_under s.view (known s) end (λ k n d x.
      let m = among s.log 2 k s.view n d x in
      let tag = m.2.tag in
      let number = m.2.number in
      elim (taken_p.log m.0 m.1) [
        | inl i ↦ let to = (at_in (IsInWindow (order_of w2 p).low) (known (order_of w2 p)) windowed (header m.0) (in_map header (order_of w2 p).log m.0 i)).to in omega (arith, to, low_is, number)
        | inr five ↦ absurd (omega (arith, five, tag))
      ]) in
      let low_now = stable_now in
      omega (arith, handed, min_s, under, low_now, next)

  emptied : IsEmptied f faulty members w4 view end
  emptied = record {
    together = record {
      quorum = even.together.quorum;
      entered = λ k x. on_each (λ r. r.node.order.view) (hearing.taken.view) k ∙ ((told_here k x).taken.view ∙ (ap (λ (y : State). y.view) (executed_here k x).order ∙ even1.together.entered k x));
      asked = λ k x. on_each (λ r. r.node.order.asked) (hearing.taken.asked) k ∙ ((told_here k x).taken.asked ∙ (ap (λ (y : State). y.asked) (executed_here k x).order ∙ even1.together.asked k x));
    };
    live = λ k x. on_each (λ r. is_some r.node.files) (ap is_some hearing.files) k ∙ (told_here k x).live;
    low = stable_now;
    lows = λ k x. elim (cases_Bool (k == p)) [
      | inl is ↦ let same = ap (λ (j : ℕ). (order_of w4 j).low) (eqb-true k p is) in let low_now = stable_now in omega (arith, same, low_now)
      | inr other ↦ let same = ap (λ (r : NodeReplica). r.node.order.low) (hearing.others k other) in let le = (lows k x).0 in omega (arith, same, le)
    ];
    next = next_now;
  }
    where
      -- what is the same at the primary is the same at each
      on_each : {A : Type 0} (part : NodeReplica → A) → part (w4 p) ≡ part (w3 p) → (k : ℕ) → part (w4 k) ≡ part (w3 k)
      on_each part same k = elim (cases_Bool (k == p)) [
        | inl is ↦ subst (λ (j : ℕ). part (w4 j) ≡ part (w3 j)) (sym (eqb-true k p is)) same
        | inr other ↦ ap part (hearing.others k other)
      ]

  abbrev Empties : List NodeTurn → Type 0
  Empties way = IsWay members w way × IsARun f keys start faulty (turns ++ way) × IsEmptied f faulty members (reached f keys start (turns ++ way)) view end

  emptied_by : Empties ((three ++ more_turns) ++ (all_tell f members ++ rest))
  emptied_by =
      let tell = all_tell f members in
      let at1 : w1 ≡ after_node_turns w three = after_join begun turns three in
      let at2 : w2 ≡ after_node_turns w (three ++ more_turns) = after_join begun heard more_turns ∙ ap (λ (x : NodeReplicas). after_node_turns x more_turns) at1 ∙ sym (after_join w three more_turns) in
      let first = ways_join members w three more_turns have.way (subst (λ (x : NodeReplicas). IsWay members x more_turns) at1 way2) in
      let second = ways_join members w2 tell rest way3 (subst (λ (x : NodeReplicas). IsWay members x rest) (after_join begun done tell) all.way) in
      let way = ways_join members w (three ++ more_turns) (tell ++ rest) first (subst (λ (x : NodeReplicas). IsWay members x (tell ++ rest)) at2 second) in
      let grouped : ended ≡ turns ++ ((three ++ more_turns) ++ (tell ++ rest)) =
      append_assoc done tell rest ∙ ap (λ (xs : List NodeTurn). xs ++ (tell ++ rest)) (append_assoc turns three more_turns) ∙ append_assoc turns (three ++ more_turns) (tell ++ rest) in
      (way, (by turns ((three ++ more_turns) ++ (tell ++ rest)) goes way).run, subst (λ (xs : List NodeTurn). IsEmptied f faulty members (reached f keys start xs) view end) grouped emptied)

  pub empties : Empties (emptying f members w view end)
  empties =
      let tell = all_tell f members in
      let at1 : w1 ≡ after_node_turns w three = after_join begun turns three in
      let at2 : w2 ≡ after_node_turns w (three ++ more_turns) = after_join begun heard more_turns ∙ ap (λ (x : NodeReplicas). after_node_turns x more_turns) at1 ∙ sym (after_join w three more_turns) in
      let at3 : w3 ≡ after_node_turns (after_node_turns w (three ++ more_turns)) tell = after_join begun done tell ∙ ap (λ (x : NodeReplicas). after_node_turns x tell) at2 in
      let one : Empties ((three ++ more_turns) ++ (tell ++ told_to f members (after_node_turns (after_node_turns w (three ++ more_turns)) tell) end p)) =
      subst (λ (x : NodeReplicas). Empties ((three ++ more_turns) ++ (tell ++ told_to f members x end p))) at3 emptied_by in
      subst (λ (x : NodeReplicas). Empties ((three ++ all_execute f members x end) ++ (tell ++ told_to f members (after_node_turns (after_node_turns w (three ++ all_execute f members x end)) tell) end p))) at1 one

pub full_windows_are_emptied : Below → WhatIsResentIsFair → NoneIsLeftOut → NoneIsBeyond → WhatIsStableIsSettled → StepsAreTurns → NodesAgree → FullWindowsAreEmptied
full_windows_are_emptied laws again left_out beyond settles are agree f keys start faulty members turns view low run fair even full =
    empties laws again left_out beyond settles are agree f keys start faulty members turns view low run fair even full
