-- What replicas answer, and for whom they execute.
use Rattle.std.proofs.Common.{◌≡◌, ℕ, suc, Bool, true, false, cond, ◌&&◌, List, [], ◌∷◌, ◌++◌, Option, Some, None, map, bytes_eq, ◌⊎◌, inl, inr, refl, sym, ap, subst, ◌∙◌, arith}
use Rattle.bfs_model.specs.Server.Tree.{FileSystem}
use Rattle.bfs_auth.specs.Keys.{Keys}
use Rattle.bfs_auth.specs.declared.authenticators.Authenticator.{Authenticator}
use Rattle.bfs_codec.specs.Laws.{MessageWasWritten, OneBatch}
use Rattle.bfs_log.specs.Batches.{Committed}
use Rattle.bfs_log.specs.Logs.{batch_in}
use Rattle.bfs_messages.specs.Messages as model
use Rattle.bfs_messages.specs.Messages.{requests_of}
use Rattle.bfs_messages.specs.Signing.{request_is_signed, requests_are_signed}
use Rattle.bfs_messages.specs.declared.signed.Signed.{Signed}
use Rattle.bfs_messages.specs.declared.message.Message.{Message}
use Rattle.bfs_messages.specs.declared.message.Message.TheVariants.{Reply}
use Rattle.bfs_messages.specs.declared.order_messages.OrderMessage.{OrderMessage}
use Rattle.bfs_messages.specs.declared.order_messages.OrderMessage.TheVariants.{PrePrepare}
use Rattle.bfs_order.specs.Laws.Calls.{CallsKeepTheReplica, IsKept}
use Rattle.bfs_order.specs.Laws.Logs.{HasNoLaterView}
use Rattle.bfs_order.specs.Replica.Executing.{batch_of, next_committed, next_order}
use Rattle.bfs_checkpoints.specs.Texts.{node_digest}
use Rattle.bfs_outcome.specs.Outcome as results
use Rattle.bfs_replies.specs.Tables.{Table, last_of}
use Rattle.bfs_agreement.specs.Histories.{IsIn}
use Rattle.bfs_nodes_agree.specs.Orders.Replicas as ordered
use Rattle.bfs_nodes_agree.specs.Orders.Replicas.{message_in}
use Rattle.bfs_nodes_agree.proofs.Orders.Lists.{AllIn, both_in, either_in, left_in, none_in, right_in, some_is}
use Rattle.bfs_nodes_agree.proofs.Orders.Logs.{IsChecked}
use Rattle.bfs_nodes_agree.specs.Views.Replicas as turns
use Rattle.bfs_nodes_agree.proofs.Views.Lists.{passes_at}
use Rattle.bfs_node.specs.Adopting.{adopted, may_adopt}
use Rattle.bfs_node.specs.Executing.{executed_on, is_next}
use Rattle.bfs_node.specs.Nodes.{Node, Outcome}
use Rattle.bfs_nodes_agree.specs.Nodes.Answers.{Answers, AnswersNow, AnswersAgain, HasCome, NodesAnswer}
use Rattle.bfs_nodes_agree.specs.Nodes.Laws.{Executed}
use Rattle.bfs_nodes_agree.specs.Nodes.Premises.{AreAuthentic}
use Rattle.bfs_nodes_agree.specs.Nodes.Replicas.{Keyring, NodeReplica, NodeReplicas, NodeTurn, Standing, after_node_step, after_node_turn, after_node_turns, beginning_node, new_node_replicas, standing_of, turn_of}
use Rattle.bfs_nodes_agree.specs.Nodes.Steps.{NodeStep, TakesOffered, Executes, Fails, Adopts, after_execution, deeds_of, executed_by, outcome, still}
use Rattle.bfs_nodes_agree.proofs.Nodes.Doing.{RepliesBy, StandsBy}
use Rattle.bfs_nodes_agree.proofs.Nodes.Executing.{next_follows}
use Rattle.bfs_nodes_agree.proofs.Nodes.States.{both_at, executed_in, executes_next, execution_on, here_now, standing_at}
use Rattle.bfs_nodes_agree.proofs.Nodes.Turns.{AreRight, new_right, right_on, step_right}

-- A batch is executed -------------------------------------------------------------------------------------------------------------

-- what it executes is the next committed batch, on its live file system
executed_is : (node : Node) (m : Signed OrderMessage) (it : Committed) → IsIn m (executed_by node Executes) → batch_in m.message ≡ Some it
    → (files : FileSystem) × (node.files ≡ Some files) × (next_committed node.order ≡ Some it)
executed_is node m it i b = go node.files (next_committed node.order) refl refl i
  where
    of_order : (o : Option (Signed OrderMessage)) → IsIn m (message_in o) → batch_of o ≡ Some it
    of_order None j = absurd j
    of_order (Some x) j = elim j [ inl same ↦ ap (λ (y : Signed OrderMessage). batch_in y.message) (sym same) ∙ b | inr none ↦ absurd none ]

    go : (live : Option FileSystem) (next : Option Committed) → node.files ≡ live → next_committed node.order ≡ next → IsIn m (cond (is_next (execution_on node live next)) (message_in (next_order node.order)) [])
        → (files : FileSystem) × (node.files ≡ Some files) × (next_committed node.order ≡ Some it)
    go None next e n j = absurd j
    go (Some live) None e n j = absurd j
    go (Some live) (Some next) e n j = (live, e, of_order (next_order node.order) j)

executes_as : (node : Node) (files : FileSystem) (next : Committed) → node.files ≡ Some files → next_committed node.order ≡ Some next → outcome node Executes ≡ executed_on node files next
executes_as node files next e n =
    ap (λ (o : Option FileSystem). after_execution node (execution_on node o (next_committed node.order))) e
    ∙ ap (λ (o : Option Committed). after_execution node (execution_on node (Some files) o)) n

follows : (node : Node) (next : Committed) → next_committed node.order ≡ Some next → next.number ≡ suc node.order.last
follows node next n = let is = next_follows node.order next n in omega (arith, is)

-- The table is that of a state ----------------------------------------------------------------------------------------------------

-- it is live then, or its table is what it was
abbrev IsLiveOr : (node now : Node) → Type 0
IsLiveOr node now = ((files : FileSystem) × (now.files ≡ Some files)) ⊎ (now.table ≡ node.table)

table_after : (node : Node) (step : NodeStep) → StandsBy node step → IsLiveOr node (outcome node step).now
table_after node Executes stands = go node.files (next_committed node.order)
  where
    go : (live : Option FileSystem) (next : Option Committed) → IsLiveOr node (after_execution node (execution_on node live next)).now
    go None next = inr refl
    go (Some live) None = inr refl
    go (Some live) (Some next) = inl ((results.outcome live node.table next.batch).files, refl)
table_after node Fails stands = inr refl
table_after node (Adopts certificate files table) stands =
    elim (may_adopt node certificate && bytes_eq (node_digest files table) certificate.digest) as (λ b. IsLiveOr node (cond b (still (adopted node certificate files table)) (still node)).now) [
      | true ↦ inl (files, refl)
      | false ↦ inr refl
    ]
table_after node step stands = inr stands.1

abbrev HasTable : NodeReplica → Type 0
HasTable r = (s : Standing) × IsIn s r.reached × (s.table ≡ r.node.table)

-- What is known of a node ---------------------------------------------------------------------------------------------------------

record Knows (keys : Keys) (r : NodeReplica) : Type 0 where
  keys_are : r.node.keys ≡ keys
  here : (files : FileSystem) → r.node.files ≡ Some files → IsIn (standing_at r.node files) r.reached
  tabled : HasTable r
  checked : AllIn (IsChecked keys) r.executed
  replies : (s : Signed Message) (reply : model.Reply) → IsIn s r.sent → s.message ≡ Reply reply → Answers r reply
  comes : (m : Signed OrderMessage) (it : Committed) → IsIn m r.executed → batch_in m.message ≡ Some it → HasCome r it.number

executed_on_step : (r : NodeReplica) (step : NodeStep) (n : ℕ) (batch : model.Batch) → Executed r n batch → Executed (after_node_step r step) n batch
executed_on_step r step n batch x = (x.0, right_in (executed_by r.node step) r.executed x.0 x.1, x.2)

reached_on_step : (r : NodeReplica) (step : NodeStep) (s : Standing) → IsIn s r.reached → IsIn s (after_node_step r step).reached
reached_on_step r step s i = right_in (standing_of (outcome r.node step).now) r.reached s i

again_on : (r : NodeReplica) (step : NodeStep) (reply : model.Reply) → AnswersAgain r reply → AnswersAgain (after_node_step r step) reply
again_on r step reply a =
    record { standing = a.standing; reached = reached_on_step r step a.standing a.reached; last = a.last; found = a.found; timestamp = a.timestamp; result = a.result }

now_on : (r : NodeReplica) (step : NodeStep) (reply : model.Reply) → AnswersNow r reply → AnswersNow (after_node_step r step) reply
now_on r step reply a =
    let reached = reached_on_step r step a.before a.reached in
    let executed = executed_on_step r step (suc a.before.number) a.batch a.executed in
    record {
      before = a.before;
      reached = reached;
      batch = a.batch;
      executed = executed;
      answer = a.answer;
      given = a.given;
      client = a.client;
      timestamp = a.timestamp;
      result = a.result;
    }

answers_on : (r : NodeReplica) (step : NodeStep) (reply : model.Reply) → Answers r reply → Answers (after_node_step r step) reply
answers_on r step reply a = elim a [ inl now ↦ inl (now_on r step reply now) | inr again ↦ inr (again_on r step reply again) ]

tabled_on : (r : NodeReplica) (step : NodeStep) → HasTable r → StandsBy r.node step → HasTable (after_node_step r step)
tabled_on r step tabled stands = elim (table_after r.node step stands) [
  | inl live ↦ (standing_at (outcome r.node step).now live.0, here_now (outcome r.node step).now live.0 r.reached live.1, refl)
  | inr same ↦ (tabled.0, reached_on_step r step tabled.0 tabled.1, tabled.2 ∙ sym same)
]

comes_on : (r : NodeReplica) (step : NodeStep) (n : ℕ) → HasCome r n → HasCome (after_node_step r step) n
comes_on r step n has = record { before = has.before; above = has.above; standing = has.standing; reached = reached_on_step r step has.standing has.reached; there = has.there }

answers_now : (r : NodeReplica) (step : NodeStep) → ((files : FileSystem) → r.node.files ≡ Some files → IsIn (standing_at r.node files) r.reached) → HasTable r → (reply : model.Reply) → RepliesBy r.node step reply
    → Answers (after_node_step r step) reply
answers_now r Executes here tabled reply is =
    let files = is.0 in
    let next = is.2 in
    let m = executes_next r.node files next is.1 is.3 in
    inl (record {
      before = standing_at r.node files;
      reached = reached_on_step r Executes (standing_at r.node files) (here files is.1);
      batch = next.batch;
      executed = subst (λ (n : ℕ). Executed (after_node_step r Executes) n next.batch) (follows r.node next is.3) (m.0, left_in (executed_by r.node Executes) r.executed m.0 m.1, m.2);
      answer = is.4;
      given = is.5;
      client = ap (λ (x : model.Reply). x.client) is.6;
      timestamp = ap (λ (x : model.Reply). x.timestamp) is.6;
      result = ap (λ (x : model.Reply). x.result) is.6;
    })
answers_now r (TakesOffered request) here tabled reply is =
    inr (record {
      standing = tabled.0;
      reached = reached_on_step r (TakesOffered request) tabled.0 tabled.1;
      last = is.0;
      found = ap (λ (t : Table). last_of t reply.client) tabled.2 ∙ is.1;
      timestamp = is.2;
      result = is.3;
    })
answers_now r step here tabled reply none = absurd none

comes_now : (r : NodeReplica) (step : NodeStep) (m : Signed OrderMessage) (it : Committed) → IsIn m (executed_by r.node step) → batch_in m.message ≡ Some it → HasCome (after_node_step r step) it.number
comes_now r Executes m it i b =
    let is = executed_is r.node m it i b in
    let now = (executed_on r.node is.0 it).now in
    let standing = standing_at now (results.outcome is.0 r.node.table it.batch).files in
    record {
      before = r.node.order.last;
      above = follows r.node it is.2;
      standing = standing;
      reached = subst (λ (out : Outcome). IsIn standing (standing_of out.now ++ r.reached)) (sym (executes_as r.node is.0 it is.1 is.2)) (inl refl);
      there = refl;
    }
comes_now r step m it i b = absurd i

knows_on : (keys : Keys) (r : NodeReplica) (step : NodeStep) → Knows keys r → (outcome r.node step).now.keys ≡ r.node.keys → StandsBy r.node step → AllIn (IsChecked r.node.keys) r.node.order.log
    → ((s : Signed Message) (reply : model.Reply) → IsIn s (outcome r.node step).sent → s.message ≡ Reply reply → RepliesBy r.node step reply) → Knows keys (after_node_step r step)
knows_on keys r step known_of kept stands log replies = record {
  keys_are = kept ∙ known_of.keys_are;
  here = λ files e. here_now (outcome r.node step).now files r.reached e;
  tabled = tabled_on r step known_of.tabled stands;
  checked = both_in (IsChecked keys) (executed_by r.node step) r.executed
      (λ m i. subst (λ (k : Keys). IsChecked k m) known_of.keys_are (log m (executed_in r.node step m i))) known_of.checked;
  replies = λ s reply i e. elim (either_in (outcome r.node step).sent r.sent s i) [
    | inl j ↦ answers_now r step known_of.here known_of.tabled reply (replies s reply j e)
    | inr j ↦ answers_on r step reply (known_of.replies s reply j e)
  ];
  comes = λ m it i b. elim (either_in (executed_by r.node step) r.executed m i) [
    | inl j ↦ comes_now r step m it j b
    | inr j ↦ comes_on r step it.number (known_of.comes m it j b)
  ];
}

carried_in : (keys : Keys) (m : OrderMessage) (next : Committed) (auth : Authenticator) → batch_in m ≡ Some next → IsChecked keys (record { message = m; auth = auth }) → requests_are_signed keys next.batch ≡ true
carried_in keys (PrePrepare proposal) next auth e checked =
    subst (λ (c : Committed). requests_are_signed keys c.batch ≡ true) (some_is (record { number = proposal.vote.number; batch = proposal.batch }) next e) checked
carried_in keys other next auth e checked = absurd cc

module _ (same : CallsKeepTheReplica) (views : IsKept HasNoLaterView) (written : MessageWasWritten) (one : OneBatch) (f : ℕ) (keys : Keyring) (faulty : ℕ → Bool) where
  know_all : (steps : List NodeTurn) (w : NodeReplicas) (v : ordered.OrderReplicas) → AreRight f faulty w v → AreAuthentic faulty w steps → ((i : ℕ) → Knows (keys i) (w i))
      → (i : ℕ) → Knows (keys i) (after_node_turns w steps i)
  know_all [] w v right comes all = all
  know_all (turn ∷ steps) w v right comes all =
      let who = turn.who in
      let done = step_right same views written one f faulty w v right turn comes.0 in
      know_all steps (after_node_turn w turn) (turns.after_view_turns v (map (turn_of who) (deeds_of (w who).node turn.step))) (right_on same views written one f faulty w v right turn comes.0) comes.1
      (both_at w turn (λ i r. Knows (keys i) r)
      (knows_on (keys who) (w who) turn.step (all who) done.keys done.stands (λ m i. ((right who).log m i).checked) (λ s reply i e. (done.sends s i).1.1 reply e)) all)

pub nodes_answer : CallsKeepTheReplica → IsKept HasNoLaterView → MessageWasWritten → OneBatch → NodesAnswer
nodes_answer same views written one f keys start faulty steps shared comes i =
    let begun = new_node_replicas f keys start in
    let known_of = know_all same views written one f keys faulty steps begun (ordered.new_order_replicas f) (new_right same views written one f faulty keys start shared) comes
    (λ k. record {
      keys_are = refl;
      here = λ files e. here_now (beginning_node f keys start k) files [] e;
      tabled = (standing_at (beginning_node f keys start k) start.files, inl refl, refl);
      checked = none_in (IsChecked (keys k));
      replies = λ s reply j e. absurd j;
      comes = λ m it j b. absurd j;
    }) i in
    record {
      replies = known_of.replies;
      comes = λ number batch x. known_of.comes x.0 (record { number = number; batch = batch }) x.1 x.2;
      signed = λ number batch s x j.
          passes_at (request_is_signed (keys i)) (requests_of batch) s (carried_in (keys i) x.0.message (record { number = number; batch = batch }) x.0.auth x.2 (known_of.checked x.0 x.1)) j;
    }
