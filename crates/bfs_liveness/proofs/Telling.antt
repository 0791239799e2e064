-- Only a node that takes a checkpoint sends a CHECKPOINT, and it keeps its snapshot.
use Rattle.std.proofs.Common.{◌≡◌, ℕ, ◌%◌, ◌==◌, Bool, true, false, cond, not, List, [], ◌∷◌, Option, Some, None, ◌&&◌, bytes_eq, option_map, inl, inr, refl, sym, ap, subst, ◌∙◌, arith}
use Rattle.std.proofs.lemmas.Bool.{eqb-true}
use Rattle.bfs_auth.specs.Authenticators.{signature_for_client}
use Rattle.bfs_auth.specs.declared.authenticators.Authenticator.{Authenticator}
use Rattle.bfs_codec.specs.Reading.{message_of}
use Rattle.bfs_checkpoints.specs.Keeping.{Kept}
use Rattle.bfs_checkpoints.specs.Snapshots.{snapshot_of}
use Rattle.bfs_checkpoints.specs.Texts.{node_digest}
use Rattle.bfs_log.specs.Batches.{Committed}
use Rattle.bfs_log.specs.Headers.{header, message_header}
use Rattle.bfs_log.specs.Logs.{Log, as_messages}
use Rattle.bfs_messages.specs.Messages as model
use Rattle.bfs_messages.specs.Signing.{as_message}
use Rattle.bfs_messages.specs.Spelling.{body_text}
use Rattle.bfs_messages.specs.declared.signed.Signed.{Signed}
use Rattle.bfs_messages.specs.declared.message.Message.{Message}
use Rattle.bfs_messages.specs.declared.message.Message.TheVariants.{Request, Order, ViewChange, NewView, Reply}
use Rattle.bfs_messages.specs.declared.order_messages.OrderMessage.{OrderMessage}
use Rattle.bfs_messages.specs.declared.order_messages.OrderMessage.TheVariants.{Checkpoint}
use Rattle.bfs_model.specs.Server.Limits.{checkpoint_interval}
use Rattle.bfs_model.specs.Server.Tree.{FileSystem}
use Rattle.bfs_order.specs.Laws.Calls as order
use Rattle.bfs_order.specs.Replica.Accepting.{accepted}
use Rattle.bfs_order.specs.Replica.Checkpoints as order_checkpoints
use Rattle.bfs_order.specs.Replica.Executing.{next_committed}
use Rattle.bfs_order.specs.Replica.Outcomes as outcomes
use Rattle.bfs_order.specs.Replica.Proposing as proposing
use Rattle.bfs_order.specs.Replica.Refusals.{refusal}
use Rattle.bfs_order.specs.Replica.States.{State}
use Rattle.bfs_order.specs.Replica.Views as views
use Rattle.bfs_order.specs.declared.error.OrderError.{OrderError}
use Rattle.bfs_outcome.specs.Outcome as results
use Rattle.bfs_replies.specs.Answers.{Answer, answer_again}
use Rattle.bfs_replies.specs.declared.tables.Class.{Class}
use Rattle.bfs_replies.specs.declared.tables.Class.TheVariants.{New, Repeat, Old, Unknown}
use Rattle.bfs_agreement.specs.Histories.{IsIn}
use Rattle.bfs_node.specs.Adopting.{adopted, may_adopt}
use Rattle.bfs_node.specs.Changing.{begun, begun_if_due, change_refusal, entered_by, entering_refusal, leads, leaving_refusal, left_for, may_begin, next_view, own_change, own_new_view, view_refusal, with_new_view, with_view_change}
use Rattle.bfs_node.specs.Checkpoints.{checkpoint_refusal, checkpointed, told_refusal}
use Rattle.bfs_node.specs.Delivering.{bytes_delivered, bytes_refusal, order_in, ordered, request_in, request_refusal, with_request}
use Rattle.bfs_node.specs.Errors.{of_order, of_view}
use Rattle.bfs_node.specs.Executing.{executed_on, reply_to, signed_reply, told}
use Rattle.bfs_node.specs.Nodes.{Messages, Node, Outcome}
use Rattle.bfs_node.specs.Offering.{answered, class_at, offer_refusal, offered_as, sent_for, told_again, waits_already, with_offered}
use Rattle.bfs_node.specs.Proposing.{pending_batch, proposal_refusal, proposed}
use Rattle.bfs_node.specs.Settling.{settling, settling_refusal}
use Rattle.bfs_node.specs.declared.error.NodeError.{NodeError}
use Rattle.bfs_node.specs.declared.error.NodeError.TheVariants as error
use Rattle.bfs_node.specs.declared.offering.Offered.TheVariants.{Waits, WaitsAlready}
use Rattle.bfs_nodes_agree.specs.Nodes.Steps.{NodeStep, Delivers, Takes, TakesRequests, TakesOffered, Proposes, Executes, Fails, Checkpoints, TimesOut, LeavesFor, ForgetsAnswered, ForgetsProposed, Adopts, Settles, after_execution, or_still, outcome, still, unless}
use Rattle.bfs_nodes_agree.specs.Orders.Replicas.{votes_by}
use Rattle.bfs_nodes_agree.proofs.Public.{IsBounded, begins_open, left_bounded, not_refused, not_second, out_of_filter_map, out_of_map, reply_is, right_in, votes_own}
use Rattle.bfs_view_change.specs.Changes.Keeping.{with_asked, with_change}
use Rattle.bfs_view_change.specs.Changes.Making.{signed_new_view}
use Rattle.bfs_view_change.specs.Changes.NewViews.{latest_checkpoint, new_view_refusal}
use Rattle.bfs_view_change.specs.Changes.ViewChanges.{messages_of}
use Rattle.bfs_liveness.specs.Catching.{StillKeeps}
use Rattle.bfs_liveness.proofs.Keeping.{told_stays}

-- None of these is one ------------------------------------------------------------------------------------------------

abbrev TellsNone : Messages → Type 0
TellsNone sent = (s : Signed Message) (c : model.Checkpoint) → IsIn s sent → s.message ≡ Order (Checkpoint c) → ⊥

-- PRE-PREPAREs, PREPAREs and COMMITs
votes_tell : (s : State) (call : order.Call) (sent : Log) → votes_by s call ≡ sent → TellsNone (as_messages sent)
votes_tell s call sent is m c i e =
    let from = out_of_map (as_message Order) sent m i in
    let kind = (votes_own s call from.0 (subst (λ (l : Log). IsIn from.0 l) (sym is) from.1)).kind in
    let whole : Order from.0.message ≡ Order (Checkpoint c) = sym (ap (λ (x : Signed Message). x.message) from.2) ∙ e in
    let same : from.0.message ≡ Checkpoint c = cc in
    let five : (header from.0).tag ≡ 5 = ap (λ (x : OrderMessage). (message_header x).tag) same in
    absurd (omega (arith, kind, five))

one_more : (m : Signed Message) (rest : Messages) → ((c : model.Checkpoint) → m.message ≡ Order (Checkpoint c) → ⊥) → TellsNone rest → TellsNone (m ∷ rest)
one_more m rest none all s c i e = elim i [ inl same ↦ none c (sym (ap (λ (x : Signed Message). x.message) same) ∙ e) | inr j ↦ all s c j e ]

if_tells : (node : Node) (r : Option NodeError) (out : Outcome) → (r ≡ None → TellsNone out.sent) → TellsNone (unless r node out).sent
if_tells node None out none = none refl
if_tells node (Some refused) out none = λ s c i e. i

-- Steps that send none ------------------------------------------------------------------------------------------------

entered_tells : (node : Node) (s : Signed model.NewView) → views.entering_refusal node.order s.message.view ≡ None → TellsNone (entered_by node s).sent
entered_tells node s opened =
    let stable = latest_checkpoint (messages_of s.message.changes) in
    let done = views.entered node.keys node.order s.message.view stable s.message.proposals in
    votes_tell node.order (order.Enters node.keys s.message.view stable s.message.proposals) done.sent (ap (λ (r : Option OrderError). (outcomes.unless r node.order done).sent) opened)

due_tells : (node : Node) → IsBounded node.order → TellsNone (begun_if_due node).sent
due_tells node bounded =
    let own = signed_new_view node.keys (own_new_view node) in
    (elim (may_begin node) as (λ b. may_begin node ≡ b → TellsNone (cond b (begun node) (still node)).sent) [
      | true ↦ λ may. one_more (as_message NewView own) (entered_by node own).sent (λ c e. absurd cc) (entered_tells node own (begins_open node bounded may))
      | false ↦ λ _ s c i e. i
    ]) refl

change_tells : (node : Node) (s : Signed model.ViewChange) → IsBounded node.order → TellsNone (with_view_change node s).sent
change_tells node s bounded =
    let kept = record node { changes = with_change node.changes s } in
    elim (leads node s.message.view) as (λ b. TellsNone (cond b (begun_if_due kept) (still (record node { changes = with_asked node.changes s.message }))).sent) [
      | true ↦ due_tells kept bounded
      | false ↦ λ s c i e. i
    ]

leaves_tells : (node : Node) (view : ℕ) → IsBounded node.order → TellsNone (outcome node (LeavesFor view)).sent
leaves_tells node view bounded =
    let own = own_change node view in
    let gone = record node { order = (views.left node.order view).now } in
    if_tells node (leaving_refusal node view) (left_for node view)
    (λ none. one_more (as_message ViewChange own) (with_view_change gone own).sent (λ c e. absurd cc)
    (change_tells gone own (left_bounded node.order view (not_refused (views.leaving_refusal node.order view) none))))

order_tells : (node : Node) (m : Signed OrderMessage) → TellsNone (unless (option_map of_order (refusal node.keys node.order m)) node (ordered node m)).sent
order_tells node m = if_tells node (option_map of_order (refusal node.keys node.order m)) (ordered node m)
    (λ none.
    let done = accepted node.keys node.order m in
    votes_tell node.order (order.Takes node.keys m) done.sent (ap (λ (r : Option OrderError). (outcomes.unless r node.order done).sent) (not_refused (refusal node.keys node.order m) none)))

message_tells : (node : Node) (m : Message) (auth : Authenticator) → IsBounded node.order → TellsNone (outcome node (Takes (record { message = m; auth = auth }))).sent
message_tells node (Request request) auth bounded =
    let signed : Signed Message = record { message = Request request; auth = auth } in
    if_tells node (request_refusal node (request_in signed request)) (with_request node (request_in signed request)) (λ _ s c i e. i)
message_tells node (Order m) auth bounded = order_tells node (order_in (record { message = Order m; auth = auth }) m)
message_tells node (ViewChange change) auth bounded =
    let s : Signed model.ViewChange = record { message = change; auth = auth } in
    if_tells node (change_refusal node s) (with_view_change node s) (λ _. change_tells node s bounded)
message_tells node (NewView new) auth bounded =
    let s : Signed model.NewView = record { message = new; auth = auth } in
    if_tells node (view_refusal node s) (with_new_view node s)
    (λ none. entered_tells node s (not_refused (views.entering_refusal node.order new.view) (not_second (option_map of_view (new_view_refusal node.keys s)) (entering_refusal node new) none)))
message_tells node (Reply reply) auth bounded = λ s c i e. i

bytes_tells : (node : Node) (bytes : List ℕ) → IsBounded node.order → TellsNone (outcome node (Delivers bytes)).sent
bytes_tells node bytes bounded = elim (message_of bytes) as (λ o. TellsNone (unless (bytes_refusal node o) node (bytes_delivered node o)).sent) [
  | None ↦ λ s c i e. i
  | Some m ↦ message_tells node m.message m.auth bounded
]

again_tells : (reply : model.Reply) (sig : Option Authenticator) → TellsNone (sent_for (answered (option_map (signed_reply reply) sig)))
again_tells reply None = λ s c i e. i
again_tells reply (Some auth) = one_more (signed_reply reply auth) [] (λ c e. absurd cc) (λ s c i e. i)

offered_tells : (node : Node) (request : Signed model.Request) (class : Class) → TellsNone (sent_for (offered_as class node request))
offered_tells node request New = elim (waits_already node request) as (λ b. TellsNone (sent_for (cond b WaitsAlready Waits))) [ true ↦ λ s c i e. i | false ↦ λ s c i e. i ]
offered_tells node request Repeat = go (answer_again node.table request.message.client)
  where
    go : (o : Option Answer) → TellsNone (sent_for (answered (told_again node o)))
    go None = λ s c i e. i
    go (Some answer) = again_tells (reply_to node.order answer) (signature_for_client node.keys answer.client (body_text (Reply (reply_to node.order answer))))
offered_tells node request Old = λ s c i e. i
offered_tells node request Unknown = λ s c i e. i

executes_tells : (node : Node) → TellsNone (outcome node Executes).sent
executes_tells node = go node.files (next_committed node.order)
  where
    found : Option FileSystem → Option Committed → Option (Option Outcome)
    found files next = option_map (λ (f : FileSystem). option_map (executed_on node f) next) files

    go : (files : Option FileSystem) (next : Option Committed) → TellsNone (after_execution node (found files next)).sent
    go None next s c i e = i
    go (Some files) None s c i e = i
    go (Some files) (Some next) s c i e =
        let from = out_of_filter_map (λ (answer : Answer). told node.keys (reply_to node.order answer)) (results.outcome files node.table next.batch).answers s i in
        let reply = reply_to node.order from.0 in
        let no : Reply reply ≡ Order (Checkpoint c) = sym (reply_is reply _ s from.2) ∙ e in
        absurd cc

-- The step that sends one ---------------------------------------------------------------------------------------------

checkpoint_kept : (node : Node) (s : Signed Message) (c : model.Checkpoint) → IsIn s (outcome node Checkpoints).sent → s.message ≡ Order (Checkpoint c) → StillKeeps (outcome node Checkpoints).now c
checkpoint_kept node s c = go (checkpoint_refusal node) node.files
  where
    go : (r : Option NodeError) (files : Option FileSystem) → let out = unless r node (or_still node (option_map (checkpointed node) files)) in IsIn s out.sent → s.message ≡ Order (Checkpoint c) → StillKeeps out.now c
    go (Some refused) files i e = absurd i
    go None None i e = absurd i
    go None (Some files) i e = elim i [
      | inl same ↦
          let snapshot = snapshot_of files node.table in
          let told : model.Checkpoint = record { sender = node.order.me; number = node.order.last; digest = snapshot.digest } in
          let whole : Order (Checkpoint told) ≡ Order (Checkpoint c) = sym (ap (λ (x : Signed Message). x.message) same) ∙ e in
          let is : told ≡ c = cc in
          let kept : Kept = record { number = node.order.last; snapshot = snapshot } in
          subst (StillKeeps (checkpointed node files).now) is (elim (told_stays node files kept (right_in node.snapshots.kept (kept ∷ []) kept (inl refl))) [
            | inl there ↦ inr (kept, there, refl, refl)
            | inr below ↦ inl below
          ])
      | inr none ↦ absurd none
    ]

-- so no other step does
pub only_checkpoints_tell : (node : Node) (step : NodeStep) → IsBounded node.order → (s : Signed Message) (c : model.Checkpoint) → IsIn s (outcome node step).sent → s.message ≡ Order (Checkpoint c) → step ≡ Checkpoints
only_checkpoints_tell node (Delivers bytes) bounded s c i e = absurd (bytes_tells node bytes bounded s c i e)
only_checkpoints_tell node (Takes signed) bounded s c i e = absurd (message_tells node signed.message signed.auth bounded s c i e)
only_checkpoints_tell node (TakesRequests messages) bounded s c i e = absurd i
only_checkpoints_tell node (TakesOffered request) bounded s c i e =
    absurd (if_tells node (offer_refusal node request) (with_offered node request) (λ _. offered_tells node request (class_at node request.message)) s c i e)
only_checkpoints_tell node (Proposes time) bounded s c i e =
    absurd (if_tells node (proposal_refusal node) (proposed node time)
    (λ _. one_more (as_message Order (proposing.proposal node.keys node.order (pending_batch node time))) [] (λ c e. absurd cc) (λ s c i e. i)) s c i e)
only_checkpoints_tell node Executes bounded s c i e = absurd (executes_tells node s c i e)
only_checkpoints_tell node Fails bounded s c i e = absurd i
only_checkpoints_tell node Checkpoints bounded s c i e = refl
only_checkpoints_tell node TimesOut bounded s c i e = absurd (leaves_tells node (next_view node.order) bounded s c i e)
only_checkpoints_tell node (LeavesFor view) bounded s c i e = absurd (leaves_tells node view bounded s c i e)
only_checkpoints_tell node ForgetsAnswered bounded s c i e = absurd i
only_checkpoints_tell node ForgetsProposed bounded s c i e = absurd i
only_checkpoints_tell node (Adopts certificate files table) bounded s c i e =
    absurd (cond_none (may_adopt node certificate && bytes_eq (node_digest files table) certificate.digest) (adopted node certificate files table) i)
  where
    cond_none : (b : Bool) (now : Node) → IsIn s (cond b (still now) (still node)).sent → ⊥
    cond_none true now j = j
    cond_none false now j = j
only_checkpoints_tell node (Settles certificate) bounded s c i e = absurd (if_tells node (settling_refusal node certificate) (still (settling node certificate)) (λ _ s c i e. i) s c i e)

-- what holds of each that this one sends holds of each that a step does
by_checkpoints : (P : NodeStep → Type 0) (node : Node) (step : NodeStep) → IsBounded node.order → (s : Signed Message) (c : model.Checkpoint) → IsIn s (outcome node step).sent → s.message ≡ Order (Checkpoint c)
    → (IsIn s (outcome node Checkpoints).sent → P Checkpoints) → P step
by_checkpoints P node step bounded s c i e tells =
    let is = only_checkpoints_tell node step bounded s c i e in
    subst P (sym is) (tells (subst (λ (x : NodeStep). IsIn s (outcome node x).sent) is i))

pub step_tells : (node : Node) (step : NodeStep) → IsBounded node.order → (s : Signed Message) (c : model.Checkpoint) → IsIn s (outcome node step).sent → s.message ≡ Order (Checkpoint c)
    → StillKeeps (outcome node step).now c
step_tells node step bounded s c i e = by_checkpoints (λ x. StillKeeps (outcome node x).now c) node step bounded s c i e (λ j. checkpoint_kept node s c j e)

-- Of what number it tells ---------------------------------------------------------------------------------------------

checkpoint_multiple : (node : Node) (s : Signed Message) (c : model.Checkpoint) → IsIn s (outcome node Checkpoints).sent → s.message ≡ Order (Checkpoint c) → (c.number % checkpoint_interval) ≡ 0
checkpoint_multiple node s c = go ((node.order.last % checkpoint_interval) == 0) refl (told_refusal node (order_checkpoints.checkpoint_refusal node.order node.order.last)) node.files
  where
    go : (b : Bool) → ((node.order.last % checkpoint_interval) == 0) ≡ b → (r : Option NodeError) (files : Option FileSystem)
        → IsIn s (unless (cond (not b) (Some error.OutsideMarks) r) node (or_still node (option_map (checkpointed node) files))).sent → s.message ≡ Order (Checkpoint c) → (c.number % checkpoint_interval) ≡ 0
    go false is r files i e = absurd i
    go true is (Some refused) files i e = absurd i
    go true is None None i e = absurd i
    go true is None (Some files) i e = elim i [
      | inl same ↦
          let told : model.Checkpoint = record { sender = node.order.me; number = node.order.last; digest = (snapshot_of files node.table).digest } in
          let whole : Order (Checkpoint told) ≡ Order (Checkpoint c) = sym (ap (λ (x : Signed Message). x.message) same) ∙ e in
          let own : told ≡ c = cc in
          subst (λ (x : model.Checkpoint). (x.number % checkpoint_interval) ≡ 0) own (eqb-true (node.order.last % checkpoint_interval) 0 is)
      | inr none ↦ absurd none
    ]

pub step_multiple : (node : Node) (step : NodeStep) → IsBounded node.order → (s : Signed Message) (c : model.Checkpoint) → IsIn s (outcome node step).sent → s.message ≡ Order (Checkpoint c)
    → (c.number % checkpoint_interval) ≡ 0
step_multiple node step bounded s c i e = by_checkpoints (λ x. (c.number % checkpoint_interval) ≡ 0) node step bounded s c i e (λ j. checkpoint_multiple node s c j e)
