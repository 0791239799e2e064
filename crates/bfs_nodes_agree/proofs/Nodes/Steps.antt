-- Each call of a node is the turns of its order that stand for it.
use Rattle.std.proofs.Common.{◌≡◌, ℕ, ◌%◌, ◌==◌, Bool, true, false, cond, ◌&&◌, ◌||◌, not, List, [], ◌∷◌, ◌++◌, Option, Some, None, option_map, refl, sym, ap, ap₂, subst, ◌∙◌, arith}
use Rattle.std.specs.Prelude.{max, nat_lt, nat_le, bytes_eq}
use Rattle.std.proofs.lemmas.Bool.{and_parts, or_parts, and_from, ltb-false, le-leb}
use Rattle.bfs_model.specs.Server.Tree.{FileSystem}
use Rattle.bfs_auth.specs.Keys.{Keys}
use Rattle.bfs_auth.specs.declared.authenticators.Authenticator.{Authenticator}
use Rattle.bfs_checkpoints.specs.Snapshots.{snapshot_of}
use Rattle.bfs_checkpoints.specs.Texts.{node_digest}
use Rattle.bfs_log.specs.Batches.{Committed}
use Rattle.bfs_log.specs.Certificates.{StableCheckpoint, is_shown}
use Rattle.bfs_log.specs.Logs.{Log}
use Rattle.bfs_messages.specs.Messages as model
use Rattle.bfs_codec.specs.Reading.{message_of}
use Rattle.bfs_messages.specs.declared.signed.Signed.{Signed}
use Rattle.bfs_messages.specs.declared.message.Message.{Message}
use Rattle.bfs_messages.specs.declared.message.Message.TheVariants.{Request, Order, ViewChange, NewView, Reply}
use Rattle.bfs_messages.specs.declared.order_messages.OrderMessage.{OrderMessage}
use Rattle.bfs_order.specs.Laws.Calls as order
use Rattle.bfs_order.specs.Replica.Accepting.{accepted}
use Rattle.bfs_order.specs.Replica.Checkpoints as checkpoints
use Rattle.bfs_order.specs.Replica.Executing.{next_committed, next_order}
use Rattle.bfs_order.specs.Replica.Installing.{certified, installed}
use Rattle.bfs_order.specs.Replica.Outcomes as outcomes
use Rattle.bfs_order.specs.Replica.Proposing as proposing
use Rattle.bfs_order.specs.Replica.Refusals.{refusal}
use Rattle.bfs_order.specs.Replica.States.{State}
use Rattle.bfs_order.specs.Replica.Views as views
use Rattle.bfs_order.specs.declared.error.OrderError.{OrderError}
use Rattle.bfs_order.specs.declared.error.OrderError.TheVariants.{NoCertificate, OutsideMarks, WrongView}
use Rattle.bfs_nodes_agree.specs.Orders.Replicas as ordered
use Rattle.bfs_nodes_agree.specs.Orders.Replicas.{call_of, after_order_deed, message_in}
use Rattle.bfs_replies.specs.Tables.{Table}
use Rattle.bfs_view_change.specs.Changes.Keeping.{changes_for, with_asked, with_change}
use Rattle.bfs_view_change.specs.Changes.NewViews.{latest_checkpoint, new_view_refusal}
use Rattle.bfs_view_change.specs.Changes.ViewChanges.{messages_of}
use Rattle.bfs_nodes_agree.specs.Views.Replicas as turns
use Rattle.bfs_nodes_agree.specs.Views.Replicas.{ViewDeed, ordered_deed}
use Rattle.bfs_node.specs.Adopting.{adopted, is_ahead, may_adopt}
use Rattle.bfs_node.specs.Changing.{begun, begun_if_due, change_refusal, entering_refusal, first_of, leads, leaving_refusal, left_for, may_begin, next_view, own_change, own_new_view, view_refusal, with_new_view, with_view_change}
use Rattle.bfs_node.specs.Checkpoints.{checkpoint_refusal, checkpointed, told_refusal}
use Rattle.bfs_node.specs.Delivering.{after_requests, bytes_delivered, bytes_refusal, message_delivered, message_refusal, ordered as taken, request_refusal, with_request, after_request, if_taken, request_in}
use Rattle.bfs_node.specs.Errors.{of_order, of_view}
use Rattle.bfs_node.specs.Executing.{executed_on, is_next}
use Rattle.bfs_node.specs.Nodes.{Messages, Node, Outcome}
use Rattle.bfs_node.specs.Offering.{after_offered, offer_refusal, offered, with_offered}
use Rattle.bfs_node.specs.declared.offering.Offered.{Offered}
use Rattle.bfs_node.specs.declared.offering.Offered.TheVariants.{Waits, WaitsAlready, Answered, PassedOver}
use Rattle.bfs_node.specs.Proposing.{pending_batch, proposed}
use Rattle.bfs_node.specs.Settling.{may_settle, settling}
use Rattle.bfs_node.specs.declared.error.NodeError.{NodeError}
use Rattle.bfs_node.specs.declared.error.NodeError.TheVariants as error
use Rattle.bfs_nodes_agree.specs.Nodes.Steps.{NodeStep, Delivers, Takes, TakesRequests, TakesOffered, Proposes, Executes, Fails, Checkpoints, TimesOut, LeavesFor, ForgetsAnswered, ForgetsProposed, Adopts, Settles, still, unless, or_still, after_execution, outcome, executed_by, where_taken, begun_deeds, change_deeds, message_deeds, bytes_deeds, checkpoint_deeds, leaving_deeds, deeds_of}
use Rattle.bfs_nodes_agree.proofs.Nodes.Bounds.{IsBounded, left_bounded}
use Rattle.bfs_nodes_agree.proofs.Nodes.Executing.{next_executes}
use Rattle.bfs_model.specs.Server.Limits.{checkpoint_interval, most_number}

abbrev pub after_deeds : ordered.OrderReplica → List ViewDeed → ordered.OrderReplica
after_deeds r [] = r
after_deeds r (deed ∷ deeds) = after_deeds (after_order_deed r (ordered_deed r.state deed)) deeds

-- the deeds lead from one state to another, and execute that
abbrev pub Lead : State → List ViewDeed → State → (executed : Log) → Type 0
Lead s deeds t executed = (r : ordered.OrderReplica) → r.state ≡ s → ((after_deeds r deeds).state ≡ t) × ((after_deeds r deeds).executed ≡ executed ++ r.executed)

nothing : (s : State) → Lead s [] s []
nothing s r e = (e, refl)

-- the call of the order in a deed
abbrev pub called : State → ViewDeed → order.Call
called s deed = call_of (ordered_deed s deed)

one : (s : State) (deed : ViewDeed) (t : State) → (order.outcome s (called s deed)).now ≡ t → Lead s (deed ∷ []) t (ordered.executed_by s (called s deed))
one s deed t h r e = (
  ap (λ (x : State). (order.outcome x (called x deed)).now) e ∙ h,
  ap (λ (x : State). ordered.executed_by x (called x deed) ++ r.executed) e,
)

then : (s t u : State) (deed : ViewDeed) (deeds : List ViewDeed) → Lead s (deed ∷ []) t [] → Lead t deeds u [] → Lead s (deed ∷ deeds) u []
then s t u deed deeds first rest r e =
    let a = first r e in
    let b = rest (after_order_deed r (ordered_deed r.state deed)) a.0 in
    (b.0, b.1 ∙ a.1)

pub not_refused : (r : Option OrderError) → option_map of_order r ≡ None → r ≡ None
not_refused None e = refl
not_refused (Some refused) e = absurd cc

-- A view begins -----------------------------------------------------------------------------------------------------------

enters : (node : Node) (view : ℕ) (changes : List (Signed model.ViewChange)) (handed : List (Signed model.PrePrepare)) → views.entering_refusal node.order view ≡ None
    → Lead node.order (turns.ChangesView node.keys view changes handed ∷ []) (views.entered node.keys node.order view (latest_checkpoint (messages_of changes)) handed).now []
enters node view changes handed e =
    one node.order (turns.ChangesView node.keys view changes handed) _
    (ap (λ (r : Option OrderError). (outcomes.unless r node.order (views.entered node.keys node.order view (latest_checkpoint (messages_of changes)) handed)).now) e)

may_enter : (b : Bool) → b ≡ true → cond (not b) (Some WrongView) None ≡ None
may_enter true e = refl
may_enter false e = absurd cc

-- the view that it begins is open
pub begins_open : (node : Node) → IsBounded node.order → may_begin node ≡ true → views.entering_refusal node.order node.order.asked ≡ None
begins_open node bounded e =
    let asked = node.order.asked in
    let above = (and_parts (nat_lt node.order.view asked) _ e).0 in
    let fits = and_from (nat_le asked asked) (nat_le asked most_number) (le-leb asked asked (omega (arith))) bounded in
    may_enter _ (and_from (nat_lt node.order.view asked) _ above fits)

begins : (node : Node) → IsBounded node.order → Lead node.order (begun_deeds node) (begun_if_due node).now.order []
begins node bounded =
    let asked = node.order.asked in
    let changes = changes_for asked node.changes in
    let handed = (own_new_view node).proposals in
    (elim (may_begin node) as (λ b. may_begin node ≡ b → Lead node.order (cond b (turns.ChangesView node.keys asked changes handed ∷ []) []) (cond b (begun node) (still node)).now.order []) [
      | true ↦ λ e. enters node asked changes handed (begins_open node bounded e)
      | false ↦ λ e. nothing node.order
    ]) refl

change_comes : (node : Node) (s : Signed model.ViewChange) → IsBounded node.order → Lead node.order (change_deeds node s) (with_view_change node s).now.order []
change_comes node s bounded =
    let there = record node { changes = with_change node.changes s } in
    let noted = record node { changes = with_asked node.changes s.message } in
    elim (leads node s.message.view) as (λ b. Lead node.order (cond b (begun_deeds there) []) (cond b (begun_if_due there) (still noted)).now.order []) [ true ↦ begins there bounded | false ↦ nothing node.order ]

-- Requests ----------------------------------------------------------------------------------------------------------------

-- it is the node with other requests that wait
abbrev pub WaitsOn : (node now : Node) → Type 0
WaitsOn node now = (pending : List (Signed model.Request)) × (now ≡ record node { pending = pending })

pub waits_once : (node : Node) (signed : Signed Message) (message : Message) → WaitsOn node (after_request node signed message)
waits_once node signed (Request request) =
    let now = (with_request node (request_in signed request)).now in
    elim (request_refusal node (request_in signed request)) as (λ r. WaitsOn node (if_taken r now node)) [ None ↦ (now.pending, refl) | Some refused ↦ (node.pending, refl) ]
waits_once node signed other = (node.pending, refl)

pub waits : (node : Node) (messages : Messages) → WaitsOn node (after_requests node messages)
waits node [] = (node.pending, refl)
waits node (signed ∷ rest) =
    let first = waits_once node signed signed.message in
    let more = waits (record node { pending = first.0 }) rest in
    (more.0, ap (λ (n : Node). after_requests n rest) first.1 ∙ more.1)

after_offer : (node : Node) (request : Signed model.Request) (it : Offered) → WaitsOn node (after_offered node request it)
after_offer node request Waits = ((with_request node request).now.pending, refl)
after_offer node request WaitsAlready = (node.pending, refl)
after_offer node request (Answered reply) = (node.pending, refl)
after_offer node request PassedOver = (node.pending, refl)

pub offer_waits : (node : Node) (request : Signed model.Request) → WaitsOn node (outcome node (TakesOffered request)).now
offer_waits node request = elim (offer_refusal node request) as (λ r. WaitsOn node (unless r node (with_offered node request)).now) [
  | None ↦ after_offer node request (offered node request)
  | Some refused ↦ (node.pending, refl)
]

-- Calls -------------------------------------------------------------------------------------------------------------------

-- a call of its order is refused where its own is
refused_alike : (node : Node) (r : Option OrderError) (done : outcomes.Outcome) (out : Outcome) → done.now ≡ out.now.order → (outcomes.unless r node.order done).now ≡ (unless (option_map of_order r) node out).now.order
refused_alike node r done out same = elim r as (λ r. (outcomes.unless r node.order done).now ≡ (unless (option_map of_order r) node out).now.order) [ None ↦ same | Some refused ↦ refl ]

pub not_second : (first second : Option NodeError) → first_of first second ≡ None → second ≡ None
not_second None second e = e
not_second (Some refused) second e = absurd cc

message_comes : (node : Node) (m : Message) (auth : Authenticator) → IsBounded node.order
    → Lead node.order (message_deeds node (record { message = m; auth = auth }) m)
    (unless (message_refusal node (record { message = m; auth = auth }) m) node (message_delivered node (record { message = m; auth = auth }) m)).now.order []
message_comes node (Request request) auth bounded =
    let out = with_request node (record { message = request; auth = auth }) in
    elim (request_refusal node (record { message = request; auth = auth })) as (λ r. Lead node.order [] (unless r node out).now.order []) [ None ↦ nothing node.order | Some refused ↦ nothing node.order ]
message_comes node (Order message) auth bounded =
    let m : Signed OrderMessage = record { message = message; auth = auth } in
    one node.order (turns.Orders (order.Takes node.keys m)) _ (refused_alike node (refusal node.keys node.order m) (accepted node.keys node.order m) (taken node m) refl)
message_comes node (ViewChange change) auth bounded =
    let s : Signed model.ViewChange = record { message = change; auth = auth } in
    elim (change_refusal node s) as (λ r. Lead node.order (where_taken r (change_deeds node s)) (unless r node (with_view_change node s)).now.order []) [
      | None ↦ change_comes node s bounded
      | Some refused ↦ nothing node.order
    ]
message_comes node (NewView new) auth bounded =
    let s : Signed model.NewView = record { message = new; auth = auth } in
    (elim (view_refusal node s) as
    (λ r. view_refusal node s ≡ r → Lead node.order (where_taken r (turns.ChangesView node.keys new.view new.changes new.proposals ∷ [])) (unless r node (with_new_view node s)).now.order []) [
      | None ↦ λ e. enters node new.view new.changes new.proposals (not_refused _ (not_second (option_map of_view (new_view_refusal node.keys s)) (entering_refusal node new) e))
      | Some refused ↦ λ e. nothing node.order
    ]) refl
message_comes node (Reply reply) auth bounded = nothing node.order

bytes_come : (node : Node) (o : Option (Signed Message)) → IsBounded node.order → Lead node.order (bytes_deeds node o) (unless (bytes_refusal node o) node (bytes_delivered node o)).now.order []
bytes_come node None bounded = nothing node.order
bytes_come node (Some m) bounded = message_comes node m.message m.auth bounded

executes : (node : Node) → Lead node.order (deeds_of node Executes) (outcome node Executes).now.order (executed_by node Executes)
executes node = go node.files (next_committed node.order) refl
  where
    found : Option FileSystem → Option Committed → Option (Option Outcome)
    found files next = option_map (λ (f : FileSystem). option_map (executed_on node f) next) files

    go : (files : Option FileSystem) (next : Option Committed) → next_committed node.order ≡ next
        → Lead node.order (cond (is_next (found files next)) (turns.Orders order.Executes ∷ []) []) (after_execution node (found files next)).now.order
        (cond (is_next (found files next)) (message_in (next_order node.order)) [])
    go None next e = nothing node.order
    go (Some files) None e = nothing node.order
    go (Some files) (Some next) e = one node.order (turns.Orders order.Executes) _ (next_executes node.order next e)

-- a CHECKPOINT that it may tell its order takes
may_tell : (node : Node) → checkpoint_refusal node ≡ None → checkpoints.checkpoint_refusal node.order node.order.last ≡ None
may_tell node = past ((node.order.last % checkpoint_interval) == 0) (checkpoints.checkpoint_refusal node.order node.order.last)
  where
    past : (b : Bool) (r : Option OrderError) → cond (not b) (Some error.OutsideMarks) (told_refusal node r) ≡ None → r ≡ None
    past true None h = refl
    past b r h = absurd cc

tells : (node : Node) → Lead node.order (deeds_of node Checkpoints) (outcome node Checkpoints).now.order []
tells node = go (checkpoint_refusal node) refl node.files
  where
    go : (r : Option NodeError) → checkpoint_refusal node ≡ r → (files : Option FileSystem)
        → Lead node.order (where_taken r (checkpoint_deeds node files)) (unless r node (or_still node (option_map (checkpointed node) files))).now.order []
    go (Some refused) e files = nothing node.order
    go None e None = nothing node.order
    go None e (Some files) =
        one node.order (turns.Orders (order.Checkpoints node.keys node.order.last (snapshot_of files node.table).digest)) _
        (ap (λ (r : Option OrderError). (outcomes.unless r node.order (checkpoints.checkpointed node.keys node.order node.order.last (snapshot_of files node.table).digest)).now) (may_tell node e))

leaves : (node : Node) (view : ℕ) → Lead node.order (deeds_of node (LeavesFor view)) (outcome node (LeavesFor view)).now.order []
leaves node view =
    let gone = record node { order = (views.left node.order view).now } in
    (elim (leaving_refusal node view) as (λ r. leaving_refusal node view ≡ r → Lead node.order (where_taken r (leaving_deeds node view)) (unless r node (left_for node view)).now.order []) [
      | Some refused ↦ λ e. nothing node.order
      | None ↦ λ e.
          let may = not_refused (views.leaving_refusal node.order view) e in
          then node.order gone.order (left_for node view).now.order (turns.TimesOut view) (change_deeds gone (own_change node view))
          (one node.order (turns.TimesOut view) gone.order (ap (λ (r : Option OrderError). (outcomes.unless r node.order (views.left node.order view)).now) may))
          (change_comes gone (own_change node view) (left_bounded node.order view may))
    ]) refl

-- An adoption -------------------------------------------------------------------------------------------------------------

-- marks that have come to the number stay
stays : (s : State) (certificate : StableCheckpoint) → nat_lt s.low certificate.number ≡ false → nat_lt s.last certificate.number ≡ false → s ≡ (installed s certificate).now
stays s certificate low last =
    let n = certificate.number in
    let a = ltb-false s.low n low in
    let b = ltb-false s.last n last in
    let at_low : s.low ≡ max s.low n = omega (arith, a) in
    let at_last : s.last ≡ max s.last n = omega (arith, b) in
    ap₂ (λ (x y : ℕ). record s { low = x; last = y }) at_low at_last
    ∙ ap (λ (c : Bool). record s { low = max s.low n; last = max s.last n; log = cond c (certified s.log certificate) s.log }) (sym low)

installs : (s : State) (keys : Keys) (certificate : StableCheckpoint) → is_shown keys s.f certificate ≡ true → (order.outcome s (order.Installs keys certificate)).now ≡ (installed s certificate).now
installs s keys certificate right = go (is_shown keys s.f certificate) (nat_lt s.low n || nat_lt s.last n) right refl
  where
    n : ℕ
    n = certificate.number

    go : (c b : Bool) → c ≡ true → (nat_lt s.low n || nat_lt s.last n) ≡ b
        → (outcomes.unless (cond (not c) (Some NoCertificate) (cond (not b) (Some OutsideMarks) None)) s (installed s certificate)).now ≡ (installed s certificate).now
    go true true e h = refl
    go true false e h = let parts = or_parts (nat_lt s.low n) (nat_lt s.last n) h in stays s certificate parts.0 parts.1
    go false b e h = absurd cc

adopts : (node : Node) (certificate : StableCheckpoint) (files : FileSystem) (table : Table)
    → Lead node.order (deeds_of node (Adopts certificate files table)) (outcome node (Adopts certificate files table)).now.order []
adopts node certificate files table =
    let right = bytes_eq (node_digest files table) certificate.digest in
    (elim (may_adopt node certificate && right) as
    (λ b. (may_adopt node certificate && right) ≡ b → Lead node.order (cond b (turns.Orders (order.Installs node.keys certificate) ∷ []) []) (cond b (still (adopted node certificate files table)) (still node)).now.order []) [
      | true ↦ λ e.
          let may = (and_parts (may_adopt node certificate) right e).0 in
          let proved = (and_parts (is_shown node.keys node.order.f certificate) (is_ahead node certificate.number) may).0 in
          one node.order (turns.Orders (order.Installs node.keys certificate)) _ (installs node.order node.keys certificate proved)
      | false ↦ λ e. nothing node.order
    ]) refl

-- a checkpoint that it has executed
settles : (node : Node) (certificate : StableCheckpoint) → Lead node.order (deeds_of node (Settles certificate)) (outcome node (Settles certificate)).now.order []
settles node certificate =
    (elim (may_settle node certificate) as
    (λ b. may_settle node certificate ≡ b → Lead node.order (where_taken (cond (not b) (Some error.NoCertificate) None) (turns.Orders (order.Installs node.keys certificate) ∷ []))
    (unless (cond (not b) (Some error.NoCertificate) None) node (still (settling node certificate))).now.order []) [
      | true ↦ λ e.
          let proved = (and_parts (is_shown node.keys node.order.f certificate) (nat_lt node.order.low certificate.number && nat_le certificate.number node.order.last) e).0 in
          one node.order (turns.Orders (order.Installs node.keys certificate)) _ (installs node.order node.keys certificate proved)
      | false ↦ λ e. nothing node.order
    ]) refl

pub step_leads : (node : Node) (step : NodeStep) → IsBounded node.order → Lead node.order (deeds_of node step) (outcome node step).now.order (executed_by node step)
step_leads node (Delivers bytes) bounded = bytes_come node (message_of bytes) bounded
step_leads node (Takes signed) bounded = message_comes node signed.message signed.auth bounded
step_leads node (TakesRequests messages) bounded = subst (λ (s : State). Lead node.order [] s []) (sym (ap (λ (n : Node). n.order) (waits node messages).1)) (nothing node.order)
step_leads node (TakesOffered request) bounded = subst (λ (s : State). Lead node.order [] s []) (sym (ap (λ (n : Node). n.order) (offer_waits node request).1)) (nothing node.order)
step_leads node (Proposes time) bounded =
    let batch = pending_batch node time in
    one node.order (turns.Orders (order.Proposes node.keys batch)) _ (refused_alike node (proposing.proposal_refusal node.order) (proposing.proposed node.keys node.order batch) (proposed node time) refl)
step_leads node Executes bounded = executes node
step_leads node Fails bounded = nothing node.order
step_leads node Checkpoints bounded = tells node
step_leads node TimesOut bounded = leaves node (next_view node.order)
step_leads node (LeavesFor view) bounded = leaves node view
step_leads node ForgetsAnswered bounded = nothing node.order
step_leads node ForgetsProposed bounded = nothing node.order
step_leads node (Adopts certificate files table) bounded = adopts node certificate files table
step_leads node (Settles certificate) bounded = settles node certificate
