-- A node loses no request but by executing it, or where its host has it forget some.
use Rattle.std.proofs.Common.{◌≡◌, ℕ, ◌==◌, ◌&&◌, true, false, cond, not, List, [], ◌∷◌, ◌⊎◌, Option, Some, None, option_map, bytes_eq, inl, inr, refl, sym, ap, subst}
use Rattle.std.proofs.lemmas.Bool.{cases_Bool, cond_both, eqb-true}
use Rattle.bfs_auth.specs.declared.authenticators.Authenticator.{Authenticator}
use Rattle.bfs_checkpoints.specs.Texts.{node_digest}
use Rattle.bfs_codec.specs.Reading.{message_of}
use Rattle.bfs_log.specs.Batches.{Committed}
use Rattle.bfs_log.specs.Certificates.{StableCheckpoint}
use Rattle.bfs_log.specs.Logs.{batch_in}
use Rattle.bfs_messages.specs.Messages as model
use Rattle.bfs_messages.specs.Messages.{Batch}
use Rattle.bfs_messages.specs.declared.signed.Signed.{Signed}
use Rattle.bfs_messages.specs.declared.message.Message.{Message}
use Rattle.bfs_messages.specs.declared.message.Message.TheVariants.{Request, Order, ViewChange, NewView, Reply}
use Rattle.bfs_messages.specs.declared.order_messages.OrderMessage.{OrderMessage}
use Rattle.bfs_model.specs.Server.Tree.{FileSystem}
use Rattle.bfs_order.specs.Replica.Executing.{batch_of, next_order}
use Rattle.bfs_pending.specs.Requests.{is_among}
use Rattle.bfs_replies.specs.Tables.{Table}
use Rattle.bfs_agreement.specs.Histories.{IsIn}
use Rattle.bfs_node.specs.Adopting.{adopted, may_adopt}
use Rattle.bfs_node.specs.Changing.{change_refusal, leaving_refusal, left_for, next_view, view_refusal, with_new_view, with_view_change}
use Rattle.bfs_node.specs.Checkpoints.{checkpoint_refusal, checkpointed}
use Rattle.bfs_node.specs.Delivering.{after_request, bytes_delivered, bytes_refusal, if_taken, order_in, order_refusal, ordered, request_in, request_refusal, with_request}
use Rattle.bfs_node.specs.Executing.{executed_on, is_next}
use Rattle.bfs_node.specs.Nodes.{Messages, Node, Outcome}
use Rattle.bfs_node.specs.Offering.{after_offered, offer_refusal, offered, with_offered}
use Rattle.bfs_node.specs.Proposing.{proposal_refusal, proposed}
use Rattle.bfs_node.specs.Settling.{settling, settling_refusal}
use Rattle.bfs_node.specs.declared.error.NodeError.{NodeError}
use Rattle.bfs_node.specs.declared.offering.Offered.{Offered}
use Rattle.bfs_node.specs.declared.offering.Offered.TheVariants.{Waits}
use Rattle.bfs_nodes_agree.specs.Nodes.Laws.{Executed}
use Rattle.bfs_nodes_agree.specs.Nodes.Replicas.{NodeReplica, NodeReplicas, NodeTurn, after_node_step, after_node_turn, after_node_turns}
use Rattle.bfs_nodes_agree.specs.Nodes.Steps.{NodeStep, Delivers, Takes, TakesRequests, TakesOffered, Proposes, Executes, Fails, Checkpoints, TimesOut, LeavesFor, ForgetsAnswered, ForgetsProposed, Adopts, Settles, after_execution, executed_by, or_still, outcome, still, unless}
use Rattle.bfs_nodes_agree.specs.Orders.Replicas.{message_in}
use Rattle.bfs_nodes_agree.proofs.Public.{left_in, right_in}
use Rattle.bfs_liveness.specs.Waiting.{HasServed, WhatWaitsStays, forgets}
use Rattle.bfs_liveness.proofs.Keeping.{in_filter}
use Rattle.bfs_liveness.proofs.Work.{change_waits, left_is}

-- What was executed stays so ------------------------------------------------------------------------------------------

pub executed_behind : (turns : List NodeTurn) (w : NodeReplicas) (k number : ℕ) (batch : Batch) → Executed (w k) number batch → Executed (after_node_turns w turns k) number batch
executed_behind [] w k number batch x = x
executed_behind (turn ∷ turns) w k number batch x =
    let r = w turn.who in
    executed_behind turns (after_node_turn w turn) k number batch
    (cond_both (k == turn.who) (after_node_step r turn.step) (w k) (λ (y : NodeReplica). Executed y number batch)
    (λ same. let here = subst (λ (j : ℕ). Executed (w j) number batch) (eqb-true k turn.who same) x in (here.0, right_in (executed_by r.node turn.step) r.executed here.0 here.1, here.2)) (λ _. x))

pub served_behind : (turns : List NodeTurn) (w : NodeReplicas) (k : ℕ) (one : Signed model.Request) → HasServed (w k) one → HasServed (after_node_turns w turns k) one
served_behind turns w k one served =
    record { number = served.number; batch = served.batch; executed = executed_behind turns w k served.number served.batch served.executed; stands = served.stands }

-- A batch is executed -------------------------------------------------------------------------------------------------

-- by the step a batch is executed that has the request
abbrev Serves : Node → NodeStep → Signed model.Request → Type 0
Serves node step one = (m : Signed OrderMessage) × (next : Committed) × IsIn m (executed_by node step) × (batch_in m.message ≡ Some next) × (is_among next.batch one ≡ true)

executes_waits : (node : Node) (one : Signed model.Request) → IsIn one node.pending → IsIn one (outcome node Executes).now.pending ⊎ Serves node Executes one
executes_waits node one i = go node.files (next_order node.order)
  where
    found : Option FileSystem → Option Committed → Option (Option Outcome)
    found files next = option_map (λ (f : FileSystem). option_map (executed_on node f) next) files

    Kept : Option FileSystem → (next : Option Committed) → Option (Signed OrderMessage) → Type 0
    Kept files next o = IsIn one (after_execution node (found files next)).now.pending
        ⊎ ((m : Signed OrderMessage) × (c : Committed) × IsIn m (cond (is_next (found files next)) (message_in o) []) × (batch_in m.message ≡ Some c) × (is_among c.batch one ≡ true))

    by : (files : FileSystem) (m : Signed OrderMessage) (next : Option Committed) → batch_in m.message ≡ next → Kept (Some files) next (Some m)
    by files m None e = inl i
    by files m (Some c) e = elim (cases_Bool (is_among c.batch one)) [
      | inl among ↦ inr (m, c, inl refl, e, among)
      | inr other ↦ inl (in_filter (λ (x : Signed model.Request). not (is_among c.batch x)) node.pending one i (ap not other))
    ]

    go : (files : Option FileSystem) (o : Option (Signed OrderMessage)) → Kept files (batch_of o) o
    go None o = inl i
    go (Some files) None = inl i
    go (Some files) (Some m) = by files m (batch_in m.message) refl

-- Other steps ---------------------------------------------------------------------------------------------------------

-- all that waits at one waits at the other
abbrev KeepsAll : (node now : Node) → Type 0
KeepsAll node now = (one : Signed model.Request) → IsIn one node.pending → IsIn one now.pending

same_waits : (node now : Node) → now.pending ≡ node.pending → KeepsAll node now
same_waits node now same one i = subst (λ (waiting : List (Signed model.Request)). IsIn one waiting) (sym same) i

if_waits : (node : Node) (r : Option NodeError) (out : Outcome) → KeepsAll node out.now → KeepsAll node (unless r node out).now
if_waits node None out waits = waits
if_waits node (Some refused) out waits = λ one i. i

request_waits : (node : Node) (request : Signed model.Request) → KeepsAll node (with_request node request).now
request_waits node request one i = left_in node.pending (request ∷ []) one i

message_waits : (node : Node) (m : Message) (auth : Authenticator) → KeepsAll node (outcome node (Takes (record { message = m; auth = auth }))).now
message_waits node (Request request) auth =
    let signed : Signed Message = record { message = Request request; auth = auth } in
    if_waits node (request_refusal node (request_in signed request)) (with_request node (request_in signed request)) (request_waits node (request_in signed request))
message_waits node (Order m) auth =
    let signed = order_in (record { message = Order m; auth = auth }) m in
    if_waits node (order_refusal node signed) (ordered node signed) (λ one i. i)
message_waits node (ViewChange change) auth =
    let s : Signed model.ViewChange = record { message = change; auth = auth } in
    if_waits node (change_refusal node s) (with_view_change node s) (same_waits node (with_view_change node s).now (change_waits node s).work.pending)
message_waits node (NewView new) auth =
    let s : Signed model.NewView = record { message = new; auth = auth } in
    if_waits node (view_refusal node s) (with_new_view node s) (λ one i. i)
message_waits node (Reply reply) auth = λ one i. i

bytes_waits : (node : Node) (bytes : List ℕ) → KeepsAll node (outcome node (Delivers bytes)).now
bytes_waits node bytes = elim (message_of bytes) as (λ o. KeepsAll node (unless (bytes_refusal node o) node (bytes_delivered node o)).now) [
  | None ↦ λ one i. i
  | Some m ↦ message_waits node m.message m.auth
]

one_request_waits : (node : Node) (signed : Signed Message) (m : Message) → KeepsAll node (after_request node signed m)
one_request_waits node signed (Request request) = elim (request_refusal node (request_in signed request)) as
    (λ r. KeepsAll node (if_taken r (with_request node (request_in signed request)).now node)) [ None ↦ request_waits node (request_in signed request) | Some refused ↦ λ one i. i ]
one_request_waits node signed other = λ one i. i

requests_wait : (node : Node) (messages : Messages) → KeepsAll node (outcome node (TakesRequests messages)).now
requests_wait node [] = λ one i. i
requests_wait node (m ∷ messages) = λ one i. requests_wait (after_request node m m.message) messages one (one_request_waits node m m.message one i)

offer_waits : (node : Node) (request : Signed model.Request) (o : Offered) → KeepsAll node (after_offered node request o)
offer_waits node request Waits = request_waits node request
offer_waits node request other = λ one i. i

leaves_waits : (node : Node) (view : ℕ) → KeepsAll node (outcome node (LeavesFor view)).now
leaves_waits node view = if_waits node (leaving_refusal node view) (left_for node view) (same_waits node (left_for node view).now (left_is node view).work.pending)

tells_waits : (node : Node) → KeepsAll node (outcome node Checkpoints).now
tells_waits node = go (checkpoint_refusal node) node.files
  where
    go : (r : Option NodeError) (files : Option FileSystem) → KeepsAll node (unless r node (or_still node (option_map (checkpointed node) files))).now
    go (Some refused) files = λ one i. i
    go None None = λ one i. i
    go None (Some files) = λ one i. i

adopts_waits : (node : Node) (c : StableCheckpoint) (files : FileSystem) (table : Table) → KeepsAll node (outcome node (Adopts c files table)).now
adopts_waits node c files table =
    cond_both (may_adopt node c && bytes_eq (node_digest files table) c.digest) (still (adopted node c files table)) (still node) (λ (out : Outcome). KeepsAll node out.now) (λ _ one i. i) (λ _ one i. i)

-- All of them ---------------------------------------------------------------------------------------------------------

step_waits : (node : Node) (step : NodeStep) (one : Signed model.Request) → forgets step ≡ false → IsIn one node.pending → IsIn one (outcome node step).now.pending ⊎ Serves node step one
step_waits node (Delivers bytes) one none i = inl (bytes_waits node bytes one i)
step_waits node (Takes signed) one none i = inl (message_waits node signed.message signed.auth one i)
step_waits node (TakesRequests messages) one none i = inl (requests_wait node messages one i)
step_waits node (TakesOffered request) one none i = inl (if_waits node (offer_refusal node request) (with_offered node request) (offer_waits node request (offered node request)) one i)
step_waits node (Proposes time) one none i = inl (if_waits node (proposal_refusal node) (proposed node time) (λ x j. j) one i)
step_waits node Executes one none i = executes_waits node one i
step_waits node Fails one none i = inl i
step_waits node Checkpoints one none i = inl (tells_waits node one i)
step_waits node TimesOut one none i = inl (leaves_waits node (next_view node.order) one i)
step_waits node (LeavesFor view) one none i = inl (leaves_waits node view one i)
step_waits node ForgetsAnswered one none i = absurd cc
step_waits node ForgetsProposed one none i = absurd cc
step_waits node (Adopts c files table) one none i = inl (adopts_waits node c files table one i)
step_waits node (Settles c) one none i = inl (if_waits node (settling_refusal node c) (still (settling node c)) (λ x j. j) one i)

abbrev WaitsOrServed : Signed model.Request → NodeReplica → Type 0
WaitsOrServed one r = IsIn one r.node.pending ⊎ HasServed r one

once : (r : NodeReplica) (step : NodeStep) (one : Signed model.Request) → forgets step ≡ false → IsIn one r.node.pending → WaitsOrServed one (after_node_step r step)
once r step one none i = elim (step_waits r.node step one none i) [
  | inl still ↦ inl still
  | inr by ↦ inr (record { number = by.1.number; batch = by.1.batch; executed = (by.0, left_in (executed_by r.node step) r.executed by.0 by.2, by.3); stands = by.4 })
]

pub what_waits_stays : WhatWaitsStays
what_waits_stays w [] k none one i = inl i
what_waits_stays w (turn ∷ turns) k none one i =
    let first = cond_both (k == turn.who) (after_node_step (w turn.who) turn.step) (w k) (WaitsOrServed one)
    (λ same.
    let is = eqb-true k turn.who same in
    once (w turn.who) turn.step one (none turn (inl refl) (sym is)) (subst (λ (j : ℕ). IsIn one (w j).node.pending) is i))
    (λ _. inl i) in
    elim first [
      | inl still ↦ what_waits_stays (after_node_turn w turn) turns k (λ other j. none other (inr j)) one still
      | inr served ↦ inr (served_behind turns (after_node_turn w turn) k one served)
    ]
