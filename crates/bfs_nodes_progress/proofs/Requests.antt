-- What the primary proposes is executed at each.
use Rattle.std.proofs.Common.{◌≡◌, ℕ, zero, suc, ◌+◌, ◌-◌, Bool, true, cond, List, [], ◌∷◌, ◌++◌, Option, Some, None, option_map, inl, refl, sym, ap, subst, ◌∙◌, arith}
use Rattle.std.specs.Prelude.{is_some}
use Rattle.bfs_votes.specs.Votes.{Told, primary}
use Rattle.bfs_log.specs.Batches.{Committed}
use Rattle.bfs_log.specs.Headers.{header, message_header}
use Rattle.bfs_log.specs.Logs.{batch_in}
use Rattle.bfs_messages.specs.declared.signed.Signed.{Signed}
use Rattle.bfs_messages.specs.declared.order_messages.OrderMessage.{OrderMessage}
use Rattle.bfs_messages.specs.declared.order_messages.OrderMessage.TheVariants.{PrePrepare, Prepare, Commit, Checkpoint}
use Rattle.bfs_model.specs.Server.Tree.{FileSystem}
use Rattle.bfs_order.specs.Replica.Executing.{next_order}
use Rattle.bfs_order.specs.Replica.Proposing.{batch_digest, next_number}
use Rattle.bfs_order.specs.Replica.States.{State, known}
use Rattle.bfs_agreement.specs.Histories.{IsIn}
use Rattle.bfs_node.specs.Executing.{executed_on, is_next}
use Rattle.bfs_node.specs.Nodes.{Node, Outcome}
use Rattle.bfs_node.specs.Proposing.{pending_batch, proposed}
use Rattle.bfs_node.specs.declared.error.NodeError.{NodeError}
use Rattle.bfs_nodes_agree.specs.Orders.Replicas.{message_in}
use Rattle.bfs_nodes_agree.specs.Nodes.Replicas.{NodeReplica, NodeReplicas, NodeTurn, after_node_step, after_node_turns, new_node_replicas}
use Rattle.bfs_nodes_agree.specs.Nodes.Steps.{Executes, Proposes, executed_by, outcome, unless}
use Rattle.bfs_nodes_agree.proofs.Public.{IsWhole, here_after, left_in}
use Rattle.bfs_nodes_progress.specs.Executing.{AreCommitted, executing}
use Rattle.bfs_nodes_progress.specs.Inside.Below.{Below}
use Rattle.bfs_nodes_progress.specs.Laws.{RequestsAreExecuted}
use Rattle.bfs_nodes_progress.specs.Members.{is_committed}
use Rattle.bfs_nodes_progress.specs.Requests.{HasExecuted, executions}
use Rattle.bfs_nodes_progress.specs.Runs.{order_of, reached}
use Rattle.bfs_nodes_progress.proofs.Executing.{IsNext, IsOne, after_so_many, next_is, proposed_in}
use Rattle.bfs_nodes_progress.proofs.Quiet.{same_me}
use Rattle.bfs_nodes_progress.proofs.Reached.{always, told_world}
use Rattle.bfs_nodes_progress.proofs.Rounds.{after_join, authentic_parts, rounds_commit}
use Rattle.bfs_nodes_progress.proofs.Standing.{proposals_stand}

-- Calls that execute --------------------------------------------------------------------------------------------------------

abbrev one_more : (k : ℕ) → NodeTurn
one_more k = record { who = k; step = Executes }

executes_once : (w : NodeReplicas) (k count : ℕ) → after_node_turns w (executions k (suc count)) k ≡ after_node_step (after_node_turns w (executions k count) k) Executes
executes_once w k count =
    ap (λ (x : NodeReplicas). x k) (after_join w (executions k count) (one_more k ∷ [])) ∙ here_after (after_node_turns w (executions k count)) (one_more k)

executing_there : (w : NodeReplicas) (k count : ℕ) → (after_node_turns w (executions k count) k).node ≡ executing count (w k).node
executing_there w k zero = refl
executing_there w k (suc count) = ap (λ (r : NodeReplica). r.node) (executes_once w k count) ∙ ap (λ (n : Node). (outcome n Executes).now) (executing_there w k count)

-- the PRE-PREPARE of the next batch is among what was executed then
executes_it : (node : Node) (m : Signed OrderMessage) (c : Committed) → is_some node.files ≡ true → next_order node.order ≡ Some m → batch_in m.message ≡ Some c → IsIn m (executed_by node Executes)
executes_it node m c live next holds = go node.files (next_order node.order) live next
  where
    batch : Option (Signed OrderMessage) → Option Committed
    batch None = None
    batch (Some m) = batch_in m.message

    found : Option FileSystem → Option Committed → Option (Option Outcome)
    found files next = option_map (λ (f : FileSystem). option_map (executed_on node f) next) files

    ready : (files : FileSystem) (next : Option Committed) → next ≡ Some c → is_next (found (Some files) next) ≡ true
    ready files None e = absurd cc
    ready files (Some x) e = refl

    go : (files : Option FileSystem) (o : Option (Signed OrderMessage)) → is_some files ≡ true → o ≡ Some m → IsIn m (cond (is_next (found files (batch o))) (message_in o) [])
    go None o live e = absurd cc
    go (Some files) None live e = absurd cc
    go (Some files) (Some x) live e =
        let same : x ≡ m = cc in
        let is : batch_in x.message ≡ Some c = ap (λ (y : Signed OrderMessage). batch_in y.message) same ∙ holds in
        subst (λ (b : Bool). IsIn m (cond b (x ∷ []) [])) (sym (ready files (batch_in x.message) is)) (inl (sym same))

-- a PRE-PREPARE's digest is that of its batch
whole_digest : (m : OrderMessage) (c : Committed) → batch_in m ≡ Some c → IsWhole m → batch_digest c.batch ≡ (message_header m).digest
whole_digest (PrePrepare proposal) c holds whole = let same : record { number = proposal.vote.number; batch = proposal.batch } ≡ c = cc in ap (λ (x : Committed). batch_digest x.batch) (sym same) ∙ sym whole
whole_digest (Prepare vote) c holds whole = absurd cc
whole_digest (Commit vote) c holds whole = absurd cc
whole_digest (Checkpoint checkpoint) c holds whole = absurd cc

-- Each executes it -----------------------------------------------------------------------------------------------------------

-- the last of so many calls, where the numbers before are committed, and one digest of each
executes_last : (w : NodeReplicas) (k before number : ℕ) (digest : List ℕ) → number ≡ (order_of w k).last + before + 1 → is_some (w k).node.files ≡ true → AreCommitted (w k).node before
    → is_committed (order_of w k) (order_of w k).view number digest ≡ true → ((n : ℕ) (d : List ℕ) → is_committed (order_of w k) (order_of w k).view n d ≡ true → IsOne (order_of w k) n d)
    → ((m : Signed OrderMessage) → IsIn m (order_of w k).log → IsWhole m.message) → HasExecuted (after_node_turns w (executions k (suc before)) k) number digest
executes_last w k before number digest at live all ready one whole =
    let node = (w k).node in
    let s = node.order in
    let there = executing before node in
    let after = after_so_many node before live all one before (omega arith) in
    let now : State = record s { last = s.last + before } in
    let next : (m : Signed OrderMessage) × IsNext now m = next_is now digest (subst (λ (n : ℕ). is_committed s s.view n digest ≡ true) at ready) (subst (λ (n : ℕ). IsOne s n digest) at (one number digest ready)) in
    let m = next.0 in
    let is = next.1 in
    let by_it : IsIn m (executed_by there Executes) = executes_it there m is.batch after.live (ap next_order after.order_is ∙ is.next) is.holds in
    let r = after_node_turns w (executions k before) k in
    let among : IsIn m (after_node_step r Executes).executed = left_in (executed_by r.node Executes) r.executed m (subst (λ (n : Node). IsIn m (executed_by n Executes)) (sym (executing_there w k before)) by_it) in
    subst (λ (x : NodeReplica). HasExecuted x number digest) (sym (executes_once w k before)) (record {
      batch = is.batch.batch;
      executed = (m, among, is.holds ∙ ap (λ (n : ℕ). Some (record { number = n; batch = is.batch.batch })) (is.number ∙ sym at));
      is = whole_digest m.message is.batch is.holds (whole m is.there) ∙ subst (λ (n : ℕ). IsOne s n digest) at (one number digest ready) (header m).digest is.digest;
    })

pub requests_are_executed : Below → RequestsAreExecuted
requests_are_executed laws f keys start faulty members turns one two three view time k run none together then room then_room round1 round2 round3 member live ready =
    let p = primary f view in
    let first = new_node_replicas f keys start in
    let w = reached f keys start turns in
    let node = (w p).node in
    let number = next_number node.order in
    let digest = batch_digest (pending_batch node time) in
    let call : NodeTurn = record { who = p; step = Proposes time } in
    let given = turns ++ call ∷ [] in
    let end = given ++ (one ++ (two ++ three)) in
    let parts = authentic_parts faulty first given (one ++ (two ++ three)) run.authentic in
    let early = authentic_parts faulty first turns (call ∷ []) parts.0 in
    let led = always laws f faulty run.others run.few keys start turns run.shared early.0 in
    let at : order_of (reached f keys start given) p ≡ (outcome node (Proposes time)).now.order =
    ap (λ (x : NodeReplicas). order_of x p) (after_join first turns (call ∷ [])) ∙ ap (λ (r : NodeReplica). r.node.order) (here_after w call) in
    let is_me : node.order.me ≡ p = same_me f faulty w led.orders led.world led.facts p in
    let stays : (outcome node (Proposes time)).now.order.view ≡ node.order.view = subst (λ (r : Option NodeError). (unless r node (proposed node time)).now.order.view ≡ node.order.view) (sym none) refl in
    let is_view : node.order.view ≡ view = sym stays ∙ sym (ap (λ (x : State). x.view) at) ∙ together.entered p together.quorum.leads in
    let stands = proposals_stand node time none in
    let is_proposed = subst (λ (x : State). Told (known x) 2 p view number digest) (sym at)
    (subst (λ (j : ℕ). Told (known (outcome node (Proposes time)).now.order) 2 j view number digest) is_me (subst (λ (u : ℕ). Told (known (outcome node (Proposes time)).now.order) 2 node.order.me u number digest) is_view stands)) in
    let all = rounds_commit laws f keys start faulty members given one two three view number digest run together then room then_room is_proposed round1 round2 round3 in
    let last = reached f keys start end in
    let s = order_of last k in
    let there = always laws f faulty run.others run.few keys start end run.shared run.authentic in
    let kept = there.facts.sound.kept k (then.quorum.correct k member) in
    let q = primary s.f s.view in
    let has = λ (n : ℕ) (d : List ℕ) (x : Told (known s) 2 q s.view n d). told_world f faulty last there.orders there.world there.facts k 2 q s.view n d (omega arith) x in
    let before = number - (s.last + 1) in
    let above = ready.above in
    let sum : number ≡ s.last + before + 1 = omega (arith, above) in
    let count : number - s.last ≡ suc before = omega (arith, above) in
    let done = executes_last last k before number digest sum live (λ n low high. ready.between n low (omega (arith, high, sum)))
    (subst (λ (u : ℕ). is_committed s u number digest ≡ true) (sym (then.entered k member)) (all k member))
    (λ n d is e x. kept.single 2 q s.view n e d (has n e x) (has n d (proposed_in s n d is)))
    (λ m i. ((there.facts.right k).log m i).whole) in
    subst (λ (c : ℕ). HasExecuted (reached f keys start (end ++ executions k c) k) number digest) (sym count)
    (subst (λ (x : NodeReplicas). HasExecuted (x k) number digest) (sym (after_join first end (executions k (suc before)))) done)
