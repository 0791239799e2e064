-- Each request that waits at every member is executed, and each member stands behind it.
use Rattle.std.proofs.Common.{◌≡◌, ℕ, ◌<◌, ◌≤◌, ◌==◌, Bool, true, false, List, [], ◌∷◌, ◌++◌, Option, Some, inl, inr, refl, sym, ap, subst, ◌∙◌, append_assoc, arith}
use Rattle.std.proofs.lemmas.Bool.{and_from, cases_lt, eq-eqb}
use Rattle.bfs_messages.specs.Messages as model
use Rattle.bfs_messages.specs.Messages.{Batch}
use Rattle.bfs_messages.specs.declared.signed.Signed.{Signed}
use Rattle.bfs_model.specs.Server.Tree.{FileSystem, Time}
use Rattle.bfs_pending.specs.Requests.{is_same}
use Rattle.bfs_order.specs.Replica.Proposing.{next_number}
use Rattle.bfs_votes.specs.Votes.{primary, replicas}
use Rattle.bfs_agreement.specs.Histories.{IsIn}
use Rattle.bfs_node.specs.Nodes.{Node}
use Rattle.bfs_node.specs.Proposing.{pending_batch}
use Rattle.bfs_nodes_agree.specs.Nodes.Laws.{Agree, Executed, NodesAgree, StepsAreTurns}
use Rattle.bfs_nodes_agree.specs.Nodes.Replicas.{Beginning, Keyring, NodeReplica, NodeReplicas, NodeTurn, Standing, after_node_turn, after_node_turns, beginning_node, new_node_replicas, standing_of, standing_with}
use Rattle.bfs_nodes_agree.specs.Nodes.Steps.{outcome}
use Rattle.bfs_nodes_agree.proofs.Public.{any_in, both_at}
use Rattle.bfs_nodes_progress.specs.Following.{AreMembers, asked_by}
use Rattle.bfs_nodes_progress.specs.Runs.{IsARun, order_of, reached}
use Rattle.bfs_nodes_progress.proofs.Public.{after_join}
use Rattle.bfs_liveness.specs.Exchanges.{ordering}
use Rattle.bfs_liveness.specs.LawsOfCatching.{MembersComeUp}
use Rattle.bfs_liveness.specs.LawsOfExecuting.{HasJustExecuted, WhatWaitsIsExecuted}
use Rattle.bfs_liveness.specs.LawsOfMarks.{WhatIsStableWasExecuted}
use Rattle.bfs_liveness.specs.LawsOfMeeting.{MembersMeetIn, WaysAreRuns}
use Rattle.bfs_liveness.specs.LawsOfProgress.{AreServedBehind, EachRequestIsExecuted, EachStateIsServed, IsServed, StandsBehind, WhatWaitsAtOneIsExecuted}
use Rattle.bfs_liveness.specs.LawsOfWindows.{FullWindowsGoOn}
use Rattle.bfs_liveness.specs.Meeting.{meeting}
use Rattle.bfs_liveness.specs.Waiting.{HasServed}
use Rattle.bfs_liveness.specs.Ways.{AreFairTo, IsWay}
use Rattle.bfs_liveness.proofs.Answered.{answered}
use Rattle.bfs_liveness.proofs.Composing.{ready_in, served_in}
use Rattle.bfs_liveness.proofs.Executions.{executed_itself, live_files, number_below}
use Rattle.bfs_liveness.proofs.Leading.{each_leads, latest_among}
use Rattle.bfs_liveness.proofs.StillWaiting.{executed_behind}
use Rattle.bfs_liveness.proofs.Ways.{ways_join}

-- A live node stands somewhere ----------------------------------------------------------------------------------------

abbrev standing_at : Node → FileSystem → Standing
standing_at node files = record { number = node.order.last; files = files; table = node.table }

abbrev IsHere : NodeReplica → Type 0
IsHere r = (files : FileSystem) → r.node.files ≡ Some files → IsIn (standing_at r.node files) r.reached

here_now : (node : Node) (rest : List Standing) (files : FileSystem) → node.files ≡ Some files → IsIn (standing_at node files) (standing_of node ++ rest)
here_now node rest files e = subst (λ (o : Option FileSystem). IsIn (standing_at node files) (standing_with node o ++ rest)) (sym e) (inl refl)

all_here : (turns : List NodeTurn) (w : NodeReplicas) → ((k : ℕ) → IsHere (w k)) → (k : ℕ) → IsHere (after_node_turns w turns k)
all_here [] w here = here
all_here (turn ∷ turns) w here =
    let r = w turn.who in
    all_here turns (after_node_turn w turn) (both_at w turn (λ k x. IsHere x) (here_now (outcome r.node turn.step).now r.reached) here)

-- what it holds comes of batches
stands : (start : Beginning) (faulty : ℕ → Bool) (w : NodeReplicas) (k number last : ℕ) (batch final : Batch) → Agree start faulty w → faulty k ≡ false → IsHere (w k) → HasJustExecuted (w k) last final → number ≤ last
    → ((order_of w k).low < number → number ≤ (order_of w k).last → (other : Batch) × Executed (w k) number other) → ((other : Batch) → Executed (w k) number other → other ≡ batch)
    → StandsBehind start faulty w k number batch
stands start faulty w k number last batch final agreed correct here just le itself alone =
    let files = live_files (w k).node.files just.live in
    let last_is = just.last in
    let up : number ≤ (order_of w k).last = omega (arith, last_is, le) in
    record {
      executed = elim (cases_lt (order_of w k).low number) [
        | inl above ↦ let it = itself above up in inl (subst (Executed (w k) number) (alone it.0 it.1) it.1)
        | inr stable ↦ inr stable
      ];
      up_to = up;
      files = files.0;
      live = files.1;
      comes = agreed.comes k (standing_at (w k).node files.0) correct (here files.0 files.1);
    }

-- What waits is in the batch ------------------------------------------------------------------------------------------

same_itself : (one : Signed model.Request) → is_same one one ≡ true
same_itself one =
    let m = one.message in
    and_from (m.client == m.client) (m.timestamp == m.timestamp) (eq-eqb m.client m.client refl) (eq-eqb m.timestamp m.timestamp refl)

-- All of it -----------------------------------------------------------------------------------------------------------

-- a way behind which each request that waited at the node is served
abbrev pub IsServedAt : (f : ℕ) → Keyring → Beginning → (faulty members : ℕ → Bool) → (turns : List NodeTurn) → (k : ℕ) → Type 0
IsServedAt f keys start faulty members turns k = (way : List NodeTurn) × IsWay members (reached f keys start turns) way × IsARun f keys start faulty (turns ++ way)
    × ((one : Signed model.Request) → IsIn one (reached f keys start turns k).node.pending → IsServed start faulty members (reached f keys start (turns ++ way)) one)

-- so it is at the primary of the view in which members are served
served_at : StepsAreTurns → NodesAgree → (f : ℕ) (keys : Keyring) (start : Beginning) (faulty members : ℕ → Bool) (turns before : List NodeTurn) (view : ℕ) (time : Time) → AreMembers f faulty members
    → AreFairTo f keys start faulty members turns → AreServedBehind f keys start faulty members turns before view time → IsServedAt f keys start faulty members turns (primary f view)
served_at are agree f keys start faulty members turns before view time among fair behind =
    let begun = new_node_replicas f keys start in
    let p = primary f view in
    let given = reached f keys start (turns ++ before) in
    let last = ordering f members given view time in
    let way = before ++ last in
    let w = reached f keys start (turns ++ way) in
    let number = next_number (order_of given p) in
    let batch = pending_batch (given p).node time in
    let all : (turns ++ before) ++ last ≡ turns ++ way = append_assoc turns before last in
    let joined : after_node_turns given last ≡ w = sym (after_join begun (turns ++ before) last) ∙ ap (after_node_turns begun) all in
    let is_way : IsWay members (reached f keys start turns) way = ways_join members (reached f keys start turns) before last behind.before_is_way
    (subst (λ (x : NodeReplicas). IsWay members x last) (after_join begun turns before) behind.served.is_way) in
    let run : IsARun f keys start faulty (turns ++ way) = subst (IsARun f keys start faulty) all behind.served.run in
    let agreed : Agree start faulty w = agree f keys start faulty (turns ++ way) run.shared run.few run.authentic (fair.batches way is_way) (fair.states way is_way) in
    let here : (k : ℕ) → IsHere (w k) = all_here (turns ++ way) begun (λ k. here_now (beginning_node f keys start k) []) in
    let just : (k : ℕ) → members k ≡ true → HasJustExecuted (w k) number batch = λ k member.
    subst (λ (x : List NodeTurn). HasJustExecuted (reached f keys start x k) number batch) all (behind.served.executed k member) in
    let serves : (one : Signed model.Request) → HasServed (w p) one → IsServed start faulty members w one = λ one served.
    let under = number_below are f keys start (turns ++ way) p served.number served.batch served.executed in
    let le = under.1 in
    let last_is = (just p behind.leads).last in
    let alone : (k : ℕ) (other : Batch) → faulty k ≡ false → Executed (w k) served.number other → other ≡ served.batch = λ k other correct executed.
    agreed.batches k p served.number other served.batch correct (among.correct p behind.leads) executed served.executed in
    let stand : (k : ℕ) → members k ≡ true → StandsBehind start faulty w k served.number served.batch = λ k member.
    stands start faulty w k served.number number served.batch batch agreed (among.correct k member) (here k) (just k member) (omega (arith, le, last_is))
    (executed_itself are f keys start (turns ++ way) k served.number) (λ other executed. alone k other (among.correct k member) executed) in
    record {
      who = p;
      member = behind.leads;
      served = served;
      alone = alone;
      behind = stand;
      answered = λ k member.
          let there = stand k member in
          answered start faulty w served.number served.batch one under.0 served.stands alone (order_of w k).last there.files (w k).node.table there.up_to there.comes;
    } in (
      way,
      is_way,
      run,
      λ one waits. elim (behind.waits p behind.leads one waits) [
        | inl still ↦ serves one (record {
          number = number;
          batch = batch;
          executed = (just p behind.leads).executed;
          stands = any_in (is_same one) (given p).node.pending one still (same_itself one);
        })
        | inr served ↦ serves one (record {
          number = served.number;
          batch = served.batch;
          executed = subst (λ (x : NodeReplicas). Executed (x p) served.number served.batch) joined (executed_behind last given p served.number served.batch served.executed);
          stands = served.stands;
        })
      ],
    )

pub each_request_is_executed : EachStateIsServed → StepsAreTurns → NodesAgree → EachRequestIsExecuted
each_request_is_executed serve are agree f keys start faulty members turns time run among fair future is_time =
    let got = serve f keys start faulty members turns time run among fair future is_time in
    let behind = got.5 in
    let at = served_at are agree f keys start faulty members turns got.1 got.0 time among fair behind in
    (at.0, at.1, at.2, λ one waits. at.3 one (waits (primary f got.0) behind.leads))

-- each member leads one of 3f + 1 views in a row, in which they may meet
pub what_waits_at_one_is_executed : MembersMeetIn → WaysAreRuns → MembersComeUp → WhatIsStableWasExecuted → FullWindowsGoOn → WhatWaitsIsExecuted → StepsAreTurns → NodesAgree → WhatWaitsAtOneIsExecuted
what_waits_at_one_is_executed meet runs come marks go_on execute are agree f keys start faulty members turns k time run among fair future views is_time member =
    let w = reached f keys start turns in
    let latest = latest_among (asked_by w) members (replicas f) k member in
    let chosen = each_leads f (asked_by w latest.0) k (among.among k member) in
    let view = chosen.0 in
    let above = chosen.1 in
    let near = chosen.2 in
    let meets = meet f keys start faulty members turns view run among fair (record {
      leads = ap members chosen.3 ∙ member;
      later = λ j is. let le = latest.2 j (among.among j is) is in omega (arith, le, above);
      signed = λ j is. let there = views latest.0 j latest.1 is in omega (arith, near, there);
    }) in
    let ready = ready_in runs come marks f keys start faulty members turns (meeting f members w view) view run among fair future meets in
    let got = served_in go_on execute f keys start faulty members turns ready.1 view ready.0 time ready.2 is_time in
    subst (IsServedAt f keys start faulty members turns) chosen.3 (served_at are agree f keys start faulty members turns got.0 view time among fair got.1)
