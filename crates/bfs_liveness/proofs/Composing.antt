-- One way behind another, from every state to one where what waited is executed.
use Rattle.std.proofs.Common.{◌≡◌, ℕ, ◌+◌, ◌≤◌, Bool, true, ltb, List, ◌++◌, ◌⊎◌, Option, Some, inl, inr, sym, ap, subst, ◌∙◌, append_assoc, arith}
use Rattle.std.proofs.lemmas.Bool.{cases_Bool, ltb-false, ltb-true}
use Rattle.std.specs.Prelude.{is_some}
use Rattle.bfs_messages.specs.Messages as model
use Rattle.bfs_messages.specs.Messages.{Batch}
use Rattle.bfs_messages.specs.declared.signed.Signed.{Signed}
use Rattle.bfs_model.specs.Server.Limits.{log_size}
use Rattle.bfs_model.specs.Server.Stored.{IsTime}
use Rattle.bfs_model.specs.Server.Tree.{FileSystem, Time}
use Rattle.bfs_order.specs.Replica.Proposing.{next_number}
use Rattle.bfs_votes.specs.Votes.{primary}
use Rattle.bfs_agreement.specs.Histories.{IsIn}
use Rattle.bfs_node.specs.Proposing.{pending_batch}
use Rattle.bfs_nodes_agree.specs.Nodes.Replicas.{Beginning, Keyring, NodeReplicas, NodeTurn, new_node_replicas}
use Rattle.bfs_nodes_progress.specs.Following.{AreMembers}
use Rattle.bfs_nodes_progress.specs.Runs.{IsARun, order_of, reached}
use Rattle.bfs_nodes_progress.proofs.Public.{after_join}
use Rattle.bfs_liveness.specs.Even.{AreEven}
use Rattle.bfs_liveness.specs.Exchanges.{ordering}
use Rattle.bfs_liveness.specs.LawsOfCatching.{MembersComeUp}
use Rattle.bfs_liveness.specs.LawsOfExecuting.{HasJustExecuted, HasPlace, WhatWaitsIsExecuted}
use Rattle.bfs_liveness.specs.LawsOfMarks.{WhatIsStableWasExecuted}
use Rattle.bfs_liveness.specs.LawsOfMeeting.{MembersMeet, WaysAreRuns}
use Rattle.bfs_liveness.specs.LawsOfProgress.{AreReady, AreServedBehind, EachStateIsServed, MembersGetReady, WhatWaitsIsServed}
use Rattle.bfs_liveness.specs.LawsOfWindows.{FullWindowsGoOn}
use Rattle.bfs_liveness.specs.Meeting.{Meets, meeting}
use Rattle.bfs_liveness.specs.Waiting.{HasServed, KeepsWaiting}
use Rattle.bfs_liveness.specs.Ways.{AllSignOf, AreFairTo, HasFuture, IsWay}
use Rattle.bfs_liveness.proofs.Kept.{most_numbers, signs_there}
use Rattle.bfs_liveness.proofs.Ways.{ways_join}

-- what can be proposed in a window can be signed
has_numbers : (members : ℕ → Bool) (w : NodeReplicas) (low next : ℕ) → next ≤ low + log_size + 1 → AllSignOf members w (low + (log_size + 1)) → AllSignOf members w next
has_numbers members w low next place all k member = let there = all k member in omega (arith, place, there)

-- in a view in which they meet they come up to one number
pub ready_in : WaysAreRuns → MembersComeUp → WhatIsStableWasExecuted → (f : ℕ) (keys : Keyring) (start : Beginning) (faulty members : ℕ → Bool) (turns first : List NodeTurn) (view : ℕ)
    → IsARun f keys start faulty turns → AreMembers f faulty members → AreFairTo f keys start faulty members turns → HasFuture f members (reached f keys start turns)
    → Meets f keys start faulty members turns first view → (low : ℕ) × (way : List NodeTurn) × AreReady f keys start faulty members turns way view low
ready_in runs come marks f keys start faulty members turns first view run are fair future meets =
    let live : (k : ℕ) → members k ≡ true → is_some (reached f keys start (turns ++ first) k).node.files ≡ true =
    λ k member. ap (λ (o : Option FileSystem). is_some o) ((meets.work k member).files) ∙ future.live k member in
    let came = come f keys start faulty members (turns ++ first) view meets.run (runs f keys start faulty members turns first run are fair meets.is_way).1 meets.together live in
    let second = came.2 in
    let up = came.3 in
    let low : (order_of (reached f keys start (turns ++ first)) came.1.who).low ≡ came.0 = came.1.low in
    let done = marks f keys start faulty members (turns ++ first) came.1.who meets.run are in
    let below = done.2 in
    let last : (order_of (reached f keys start (turns ++ first)) done.0).last ≡ (order_of (reached f keys start turns) done.0).last = (meets.work done.0 done.1).last in
    let all : (turns ++ first) ++ second ≡ turns ++ (first ++ second) = append_assoc turns first second in (
      came.0,
      first ++ second,
      record {
        leads = meets.together.quorum.leads;
        is_way = ways_join members (reached f keys start turns) first second meets.is_way
            (subst (λ (x : NodeReplicas). IsWay members x second) (after_join (new_node_replicas f keys start) turns first) up.is_way);
        run = subst (IsARun f keys start faulty) all up.run;
        fair = subst (AreFairTo f keys start faulty members) all up.fair;
        even = subst (λ (x : List NodeTurn). AreEven f faulty members (reached f keys start x) view came.0) all up.even;
        waits = λ k member. subst (λ (x : List NodeTurn). (reached f keys start x k).node.pending ≡ (reached f keys start turns k).node.pending) all (up.pending k ∙ (meets.work k member).pending);
        bounded = λ k member.
            let ends = signs_there f keys start members turns (turns ++ (first ++ second)) ((order_of (reached f keys start turns) done.0).last + (log_size + 1)) (future.numbers done.0 done.1) k member in
            omega (arith, low, below, last, ends);
      },
    )

pub members_get_ready : MembersMeet → WaysAreRuns → MembersComeUp → WhatIsStableWasExecuted → MembersGetReady
members_get_ready meet runs come marks f keys start faulty members turns run are fair future =
    let met = meet f keys start faulty members turns run are fair future.views in
    let view = met.0 in
    let ready = ready_in runs come marks f keys start faulty members turns (meeting f members (reached f keys start turns) view) view run are fair future met.4 in
    (view, ready.0, ready.1, met.1, met.2, met.3, ready.2)

pub what_waits_is_served : WhatWaitsIsExecuted → WhatWaitsIsServed
what_waits_is_served execute f keys start faulty members turns way view low time ready is_time place =
    let w = reached f keys start (turns ++ way) in
    let p = primary f view in
    let last = ordering f members w view time in
    let number = next_number (order_of w p) in
    let fits = place.0 in
    let done = execute f keys start faulty members (turns ++ way) view low time ready.run ready.fair ready.even place (has_numbers members w low number (omega (arith, fits)) ready.bounded) is_time in
    let all : (turns ++ way) ++ last ≡ turns ++ (way ++ last) = append_assoc turns way last in
    let batch : (requests : List (Signed model.Request)) → Batch = λ requests. Some (record { time = time; requests = requests }) in
    record {
      is_way = ways_join members (reached f keys start turns) way last ready.is_way
          (subst (λ (x : NodeReplicas). IsWay members x last) (after_join (new_node_replicas f keys start) turns way) done.0);
      run = subst (IsARun f keys start faulty) all done.1;
      executed = λ k member.
          subst (λ (x : List NodeTurn). HasJustExecuted (reached f keys start x k) number (pending_batch (reached f keys start turns p).node time)) all
          (subst (λ (requests : List (Signed model.Request)). HasJustExecuted (reached f keys start ((turns ++ way) ++ last) k) number (batch requests))
          (ready.waits p ready.leads) (done.2 k member));
    }

-- whether there is place
module _ (execute : WhatWaitsIsExecuted) (f : ℕ) (keys : Keyring) (start : Beginning) (faulty members : ℕ → Bool) (turns : List NodeTurn) (view : ℕ) (time : Time) (is_time : IsTime time) where
  served : (before : List NodeTurn) (low : ℕ) → members (primary f view) ≡ true → IsWay members (reached f keys start turns) before → IsARun f keys start faulty (turns ++ before)
      → AreFairTo f keys start faulty members (turns ++ before) → AreEven f faulty members (reached f keys start (turns ++ before)) view low
      → HasPlace low (next_number (order_of (reached f keys start (turns ++ before)) (primary f view)))
      → AllSignOf members (reached f keys start (turns ++ before)) (next_number (order_of (reached f keys start (turns ++ before)) (primary f view)))
      → ((k : ℕ) → members k ≡ true → KeepsWaiting (reached f keys start turns k) (reached f keys start (turns ++ before) k)) → AreServedBehind f keys start faulty members turns before view time
  served before low leads is_way run fair even place sign waits =
      let done = execute f keys start faulty members (turns ++ before) view low time run fair even place sign is_time in
      record { leads = leads; before_is_way = is_way; waits = waits; served = record { is_way = done.0; run = done.1; executed = done.2 } }

-- from where they are ready
pub served_in : FullWindowsGoOn → WhatWaitsIsExecuted → (f : ℕ) (keys : Keyring) (start : Beginning) (faulty members : ℕ → Bool) (turns way : List NodeTurn) (view low : ℕ) (time : Time)
    → AreReady f keys start faulty members turns way view low → IsTime time → (before : List NodeTurn) × AreServedBehind f keys start faulty members turns before view time
served_in go_on execute f keys start faulty members turns way view low time ready is_time =
    let w = reached f keys start (turns ++ way) in
    let p = primary f view in
    let next = next_number (order_of w p) in
    let there = ready.bounded p ready.leads in
    let most = most_numbers (w p).node.keys.signer in
    elim (cases_Bool (ltb (low + log_size) next)) [
      | inl full ↦
          let past = ltb-true (low + log_size) next full in
          let on = go_on f keys start faulty members (turns ++ way) view low ready.run ready.fair ready.even past (omega (arith, there, most)) in
          let all : (turns ++ way) ++ on.0 ≡ turns ++ (way ++ on.0) = append_assoc turns way on.0 in
          let is_way : IsWay members (reached f keys start turns) (way ++ on.0) =
          ways_join members (reached f keys start turns) way on.0 ready.is_way (subst (λ (x : NodeReplicas). IsWay members x on.0) (after_join (new_node_replicas f keys start) turns way) on.1) in
          let now = reached f keys start (turns ++ (way ++ on.0)) in
          let one_more = subst (λ (x : List NodeTurn). next_number (order_of (reached f keys start x) p) ≤ low + log_size + 1) all on.5 in
          let bounded = signs_there f keys start members (turns ++ way) (turns ++ (way ++ on.0)) (low + (log_size + 1)) ready.bounded in (
            way ++ on.0,
            served execute f keys start faulty members turns view time is_time (way ++ on.0) (low + log_size) ready.leads is_way
                (subst (IsARun f keys start faulty) all on.2) (subst (AreFairTo f keys start faulty members) all on.3)
                (subst (λ (x : List NodeTurn). AreEven f faulty members (reached f keys start x) view (low + log_size)) all on.4)
                (omega (arith, one_more), omega (arith, one_more, there, most)) (has_numbers members now low (next_number (order_of now p)) (omega (arith, one_more)) bounded)
                (λ k member one i. subst (λ (x : List NodeTurn). IsIn one (reached f keys start x k).node.pending ⊎ HasServed (reached f keys start x k) one) all
                (on.6 k member one (subst (λ (waiting : List (Signed model.Request)). IsIn one waiting) (sym (ready.waits k member)) i))),
          )
      | inr room ↦
          let le = ltb-false (low + log_size) next room in (
            way,
            served execute f keys start faulty members turns view time is_time way low ready.leads ready.is_way ready.run ready.fair ready.even
                (omega (arith, le), omega (arith, le, there, most)) (has_numbers members w low next (omega (arith, le)) ready.bounded)
                (λ k member one i. inl (subst (λ (waiting : List (Signed model.Request)). IsIn one waiting) (sym (ready.waits k member)) i)),
          )
    ]

pub each_state_is_served : MembersGetReady → FullWindowsGoOn → WhatWaitsIsExecuted → EachStateIsServed
each_state_is_served get_ready go_on execute f keys start faulty members turns time run are fair future is_time =
    let got = get_ready f keys start faulty members turns run are fair future in
    let ready = served_in go_on execute f keys start faulty members turns got.2 got.0 got.1 time got.6 is_time in
    (got.0, ready.0, got.3, got.4, got.5, ready.1)
