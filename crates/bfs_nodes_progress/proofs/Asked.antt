-- What a step makes of the views that senders are known to ask for.
use Rattle.std.proofs.Common.{◌≡◌, ℕ, true, false, cond, ◌&&◌, List, [], ◌∷◌, slice_set, ◌⊎◌, Option, Some, None, option_map, bytes_eq, inl, inr, refl, ap, ◌∙◌}
use Rattle.bfs_auth.specs.Keys.{Keys}
use Rattle.bfs_auth.specs.declared.authenticators.Authenticator.{Authenticator}
use Rattle.bfs_checkpoints.specs.Texts.{node_digest}
use Rattle.bfs_codec.specs.Reading.{message_of}
use Rattle.bfs_log.specs.Certificates.{StableCheckpoint}
use Rattle.bfs_log.specs.Headers.{header}
use Rattle.bfs_log.specs.Logs.{Log}
use Rattle.bfs_messages.specs.Messages as model
use Rattle.bfs_messages.specs.Signing.{as_message}
use Rattle.bfs_messages.specs.declared.signed.Signed.{Signed}
use Rattle.bfs_messages.specs.declared.message.Message.{Message}
use Rattle.bfs_messages.specs.declared.message.Message.TheVariants.{Request, Order, ViewChange, NewView, Reply}
use Rattle.bfs_model.specs.Server.Tree.{FileSystem}
use Rattle.bfs_order.specs.Replica.Accepting.{accepted}
use Rattle.bfs_order.specs.Replica.Installing.{raised}
use Rattle.bfs_order.specs.Replica.Refusals.{place_refusal}
use Rattle.bfs_order.specs.Replica.States.{State}
use Rattle.bfs_order.specs.Replica.Views.{all_taken_over, as_proposals, left, number_of, opened}
use Rattle.bfs_replies.specs.Tables.{Table}
use Rattle.bfs_node.specs.Adopting.{adopted, may_adopt}
use Rattle.bfs_node.specs.Changing.{begun, begun_if_due, change_refusal, leads, leaving_refusal, left_for, may_begin, next_view, own_change, own_new_view, view_refusal, with_new_view, with_view_change}
use Rattle.bfs_node.specs.Checkpoints.{checkpoint_refusal, checkpointed}
use Rattle.bfs_node.specs.Delivering.{bytes_delivered, bytes_refusal, order_in, order_refusal, ordered, request_in, request_refusal, with_request}
use Rattle.bfs_node.specs.Nodes.{Node, Outcome}
use Rattle.bfs_node.specs.Settling.{settling, settling_refusal}
use Rattle.bfs_node.specs.declared.error.NodeError.{NodeError}
use Rattle.bfs_nodes_agree.specs.Nodes.Steps.{NodeStep, Delivers, Takes, TakesRequests, TakesOffered, Proposes, Executes, Fails, Checkpoints, TimesOut, LeavesFor, ForgetsAnswered, ForgetsProposed, Adopts, Settles, or_still, outcome, still, unless}
use Rattle.bfs_nodes_agree.proofs.Public.{either_way}
use Rattle.bfs_nodes_progress.specs.Rounds.{Brings}
use Rattle.bfs_nodes_progress.proofs.Resting.{Rests, executes_rests, offered_rests, proposes_rests, requests_rest}
use Rattle.bfs_view_change.specs.Changes.Keeping.{Kept, with_asked, with_change}
use Rattle.bfs_view_change.specs.Changes.NewViews.{latest_checkpoint}
use Rattle.bfs_view_change.specs.Changes.ViewChanges.{messages_of}

-- What a step may do --------------------------------------------------------------------------------------------------

-- what was asked stays; a VIEW-CHANGE came that was not refused; or the node has left for a view
abbrev pub Marks : Node → (Came : Signed model.ViewChange → Type 0) → (now : Node) → Type 0
Marks node Came now = (now.changes.asked ≡ node.changes.asked)
    ⊎ (((s : Signed model.ViewChange) × Came s × (change_refusal node s ≡ None) × (now.changes.asked ≡ slice_set node.changes.asked s.message.sender s.message.view))
    ⊎ ((view : ℕ) × (leaving_refusal node view ≡ None) × (now.changes.asked ≡ slice_set node.changes.asked node.order.me view) × (now.order.asked ≡ view)))

abbrev Stays : Node → (now : Node) → Type 0
Stays node now = now.changes.asked ≡ node.changes.asked

if_stays : (node : Node) (r : Option NodeError) (out : Outcome) → Stays node out.now → Stays node (unless r node out).now
if_stays node None out stays = stays
if_stays node (Some refused) out stays = refl

-- Views ---------------------------------------------------------------------------------------------------------------

over_asked : (keys : Keys) (s : State) (ms : Log) → (all_taken_over keys s ms).now.asked ≡ s.asked
over_asked keys s [] = refl
over_asked keys s (m ∷ ms) = either_way (λ o. (all_taken_over keys o.now ms).now.asked ≡ s.asked) (place_refusal s (header m)) s (accepted keys s m)
    (λ _. over_asked keys (accepted keys s m).now ms) (over_asked keys s ms)

due_stays : (node : Node) → Stays node (begun_if_due node).now
due_stays node = elim (may_begin node) as (λ b. Stays node (cond b (begun node) (still node)).now) [ true ↦ refl | false ↦ refl ]

due_asks : (node : Node) → (begun_if_due node).now.order.asked ≡ node.order.asked
due_asks node =
    let new = own_new_view node in
    let stable = latest_checkpoint (messages_of new.changes) in
    elim (may_begin node) as (λ b. (cond b (begun node) (still node)).now.order.asked ≡ node.order.asked) [
      | true ↦ over_asked node.keys (opened (raised node.keys node.order stable) new.view (number_of stable) new.proposals) (as_proposals new.proposals)
      | false ↦ refl
    ]

-- a VIEW-CHANGE is noted
pub change_marks : (node : Node) (s : Signed model.ViewChange) → (with_view_change node s).now.changes.asked ≡ slice_set node.changes.asked s.message.sender s.message.view
change_marks node s =
    let kept = record node { changes = with_change node.changes s } in
    elim (leads node s.message.view) as
    (λ b. (cond b (begun_if_due kept) (still (record node { changes = with_asked node.changes s.message }))).now.changes.asked ≡ slice_set node.changes.asked s.message.sender s.message.view) [
      | true ↦ due_stays kept
      | false ↦ refl
    ]

change_asks : (node : Node) (s : Signed model.ViewChange) → (with_view_change node s).now.order.asked ≡ node.order.asked
change_asks node s =
    let kept = record node { changes = with_change node.changes s } in
    elim (leads node s.message.view) as (λ b. (cond b (begun_if_due kept) (still (record node { changes = with_asked node.changes s.message }))).now.order.asked ≡ node.order.asked) [
      | true ↦ due_asks kept
      | false ↦ refl
    ]

-- it asks for the view
pub left_asks : (node : Node) (view : ℕ) → (left_for node view).now.order.asked ≡ view
left_asks node view = change_asks (record node { order = (left node.order view).now }) (own_change node view)

leaves_marks : (node : Node) (view : ℕ) (Came : Signed model.ViewChange → Type 0) → Marks node Came (outcome node (LeavesFor view)).now
leaves_marks node view Came = (elim (leaving_refusal node view) as (λ r. leaving_refusal node view ≡ r → Marks node Came (unless r node (left_for node view)).now) [
  | Some refused ↦ λ _. inl refl
  | None ↦ λ e. inr (inr (view, e, change_marks (record node { order = (left node.order view).now }) (own_change node view), left_asks node view))
]) refl

-- Messages ------------------------------------------------------------------------------------------------------------

came_as : (node now : Node) (Came Other : Signed model.ViewChange → Type 0) → ((s : Signed model.ViewChange) → Came s → Other s) → Marks node Came now → Marks node Other now
came_as node now Came Other on marks = elim marks as (λ _. Marks node Other now) [
  | inl stays ↦ inl stays
  | inr changes ↦ elim changes as (λ _. Marks node Other now) [
    | inl came ↦ inr (inl (came.0, on came.0 came.1, came.2, came.3))
    | inr left ↦ inr (inr left)
  ]
]

message_marks : (node : Node) (m : Message) (auth : Authenticator) → let signed : Signed Message = record { message = m; auth = auth } in
    Marks node (λ s. signed ≡ as_message ViewChange s) (outcome node (Takes signed)).now
message_marks node (Request request) auth =
    let signed : Signed Message = record { message = Request request; auth = auth } in
    inl (if_stays node (request_refusal node (request_in signed request)) (with_request node (request_in signed request)) refl)
message_marks node (Order m) auth =
    let signed : Signed Message = record { message = Order m; auth = auth } in
    inl (if_stays node (order_refusal node (order_in signed m)) (ordered node (order_in signed m)) refl)
message_marks node (ViewChange change) auth =
    let s : Signed model.ViewChange = record { message = change; auth = auth } in
    let Came = λ (x : Signed model.ViewChange). as_message ViewChange s ≡ as_message ViewChange x in
    (elim (change_refusal node s) as (λ r. change_refusal node s ≡ r → Marks node Came (unless r node (with_view_change node s)).now) [
      | Some refused ↦ λ _. inl refl
      | None ↦ λ e. inr (inl (s, refl, e, change_marks node s))
    ]) refl
message_marks node (NewView new) auth =
    let s : Signed model.NewView = record { message = new; auth = auth } in
    inl (if_stays node (view_refusal node s) (with_new_view node s) refl)
message_marks node (Reply reply) auth = inl refl

bytes_marks : (node : Node) (bytes : List ℕ) → Marks node (λ s. message_of bytes ≡ Some (as_message ViewChange s)) (outcome node (Delivers bytes)).now
bytes_marks node bytes =
    let Came = λ (s : Signed model.ViewChange). message_of bytes ≡ Some (as_message ViewChange s) in
    (elim (message_of bytes) as (λ o. message_of bytes ≡ o → Marks node Came (unless (bytes_refusal node o) node (bytes_delivered node o)).now) [
      | None ↦ λ _. inl refl
      | Some m ↦ λ e. came_as node (outcome node (Takes m)).now (λ s. m ≡ as_message ViewChange s) Came (λ s same. e ∙ ap (λ (x : Signed Message). Some x) same) (message_marks node m.message m.auth)
    ]) refl

-- Other calls ---------------------------------------------------------------------------------------------------------

rests_stays : (node now : Node) → Rests node now → Stays node now
rests_stays node now rests = ap (λ (changes : Kept). changes.asked) rests.0

tells_stays : (node : Node) → Stays node (outcome node Checkpoints).now
tells_stays node = go (checkpoint_refusal node) node.files
  where
    go : (r : Option NodeError) (files : Option FileSystem) → Stays node (unless r node (or_still node (option_map (checkpointed node) files))).now
    go (Some refused) files = refl
    go None None = refl
    go None (Some files) = refl

adopts_stays : (node : Node) (certificate : StableCheckpoint) (files : FileSystem) (table : Table) → Stays node (outcome node (Adopts certificate files table)).now
adopts_stays node certificate files table =
    elim (may_adopt node certificate && bytes_eq (node_digest files table) certificate.digest) as (λ b. Stays node (cond b (still (adopted node certificate files table)) (still node)).now) [
      | true ↦ refl
      | false ↦ refl
    ]

-- Any step ------------------------------------------------------------------------------------------------------------

pub step_marks : (node : Node) (step : NodeStep) → Marks node (λ s. Brings step (as_message ViewChange s)) (outcome node step).now
step_marks node (Delivers bytes) = bytes_marks node bytes
step_marks node (Takes signed) = message_marks node signed.message signed.auth
step_marks node (TakesRequests messages) = inl (rests_stays node (outcome node (TakesRequests messages)).now (requests_rest node messages))
step_marks node (TakesOffered request) = inl (rests_stays node (outcome node (TakesOffered request)).now (offered_rests node request))
step_marks node (Proposes time) = inl (rests_stays node (outcome node (Proposes time)).now (proposes_rests node time))
step_marks node Executes = inl (rests_stays node (outcome node Executes).now (executes_rests node))
step_marks node Fails = inl refl
step_marks node Checkpoints = inl (tells_stays node)
step_marks node TimesOut = leaves_marks node (next_view node.order) (λ s. Brings TimesOut (as_message ViewChange s))
step_marks node (LeavesFor view) = leaves_marks node view (λ s. Brings (LeavesFor view) (as_message ViewChange s))
step_marks node ForgetsAnswered = inl refl
step_marks node ForgetsProposed = inl refl
step_marks node (Adopts certificate files table) = inl (adopts_stays node certificate files table)
step_marks node (Settles certificate) = inl (if_stays node (settling_refusal node certificate) (still (settling node certificate)) refl)
