-- A step of a node keeps each snapshot that it kept, unless a later number is stable then.
use Rattle.std.proofs.Common.{◌≡◌, ℕ, ◌<◌, ◌≤◌, ◌==◌, Bool, true, false, cond, ◌&&◌, List, [], ◌∷◌, ◌++◌, filter, ◌⊎◌, Option, Some, None, option_map, bytes_eq, inl, inr, refl, sym, ap, subst, ◌∙◌, append-nil, arith}
use Rattle.std.specs.Prelude.{nat_le, nat_lt}
use Rattle.std.proofs.lemmas.Bool.{and_parts, cases_lt, cond_both, eqb-true, le-leb, ltb-true}
use Rattle.bfs_auth.specs.Keys.{Keys}
use Rattle.bfs_auth.specs.declared.authenticators.Authenticator.{Authenticator}
use Rattle.bfs_checkpoints.specs.Certificates.{told_checkpoint}
use Rattle.bfs_checkpoints.specs.Keeping.{Keeping, Kept, settled, settles, with_snapshot}
use Rattle.bfs_checkpoints.specs.Snapshots.{snapshot_of}
use Rattle.bfs_checkpoints.specs.Texts.{node_digest}
use Rattle.bfs_codec.specs.Reading.{message_of}
use Rattle.bfs_log.specs.Certificates.{StableCheckpoint}
use Rattle.bfs_log.specs.Headers.{header}
use Rattle.bfs_log.specs.Logs.{Log}
use Rattle.bfs_messages.specs.Messages as model
use Rattle.bfs_messages.specs.declared.signed.Signed.{Signed}
use Rattle.bfs_messages.specs.declared.message.Message.{Message}
use Rattle.bfs_messages.specs.declared.message.Message.TheVariants.{Request, Order, ViewChange, NewView, Reply}
use Rattle.bfs_messages.specs.declared.order_messages.OrderMessage.{OrderMessage}
use Rattle.bfs_model.specs.Server.Tree.{FileSystem}
use Rattle.bfs_order.specs.Replica.Accepting.{accepted, answers, makes_stable}
use Rattle.bfs_order.specs.Replica.Checkpoints as order
use Rattle.bfs_order.specs.Replica.Installing.{raised}
use Rattle.bfs_order.specs.Replica.States.{State, known, with_message, with_more}
use Rattle.bfs_order.specs.Replica.Views.{left}
use Rattle.bfs_order.proofs.Public.{entered_low, raised_either}
use Rattle.bfs_replies.specs.Tables.{Table}
use Rattle.bfs_votes.specs.Tags.{checkpoint_tag}
use Rattle.bfs_votes.specs.Votes.{Header, is_stable}
use Rattle.bfs_agreement.specs.Histories.{IsIn}
use Rattle.bfs_node.specs.Adopting.{adopted, may_adopt}
use Rattle.bfs_node.specs.Changing.{begun, begun_if_due, change_refusal, entered_by, leads, leaving_refusal, left_for, may_begin, next_view, own_change, own_new_view, settled_if, view_refusal, with_new_view, with_view_change}
use Rattle.bfs_node.specs.Checkpoints.{checkpoint_refusal, checkpointed}
use Rattle.bfs_node.specs.Delivering.{bytes_delivered, bytes_refusal, order_in, order_refusal, ordered, request_in, request_refusal, settled_by, with_request}
use Rattle.bfs_node.specs.Nodes.{Node, Outcome}
use Rattle.bfs_node.specs.Settling.{settling, settling_refusal}
use Rattle.bfs_node.specs.declared.error.NodeError.{NodeError}
use Rattle.bfs_nodes_agree.specs.Nodes.Steps.{NodeStep, Delivers, Takes, TakesRequests, TakesOffered, Proposes, Executes, Fails, Checkpoints, TimesOut, LeavesFor, ForgetsAnswered, ForgetsProposed, Adopts, Settles, or_still, outcome, still, unless}
use Rattle.bfs_nodes_agree.proofs.Public.{left_in, no_answers, some_is}
use Rattle.bfs_nodes_progress.proofs.Public.{Rests, executes_rests, offered_rests, proposes_rests, requests_rest}
use Rattle.bfs_view_change.specs.Changes.Keeping.{with_asked, with_change}
use Rattle.bfs_view_change.specs.Changes.Making.{signed_new_view}
use Rattle.bfs_view_change.specs.Changes.NewViews.{latest_checkpoint}
use Rattle.bfs_view_change.specs.Changes.ViewChanges.{messages_of}

-- What is settled -----------------------------------------------------------------------------------------------------

pub in_filter : {A : Type 0} (p : A → Bool) (xs : List A) (x : A) → IsIn x xs → p x ≡ true → IsIn x (filter p xs)
in_filter p [] x i e = absurd i
in_filter {A} p (y ∷ ys) x i e = elim i [
  | inl same ↦ subst (λ (b : Bool). IsIn x (cond b (y ∷ filter p ys) (filter p ys))) (sym (ap p (sym same) ∙ e)) (inl same)
  | inr j ↦
      let rest = in_filter p ys x j e in
      cond_both (p y) (y ∷ filter p ys) (filter p ys) (λ (l : List A). IsIn x l) (λ _. inr rest) (λ _. rest)
]

-- it is kept, or its number lies below that one
abbrev pub StaysAbove : (low : ℕ) → Keeping → Kept → Type 0
StaysAbove low keeping x = IsIn x keeping.kept ⊎ (x.number < low)

pub settled_stays : (c : StableCheckpoint) (keeping : Keeping) (x : Kept) → IsIn x keeping.kept → StaysAbove c.number (settled c keeping) x
settled_stays c keeping x i =
    let above = λ (kept : Kept). nat_le c.number kept.number in
    cond_both (settles c keeping) (record keeping { kept = filter above keeping.kept; stable = Some c }) keeping (λ (k : Keeping). StaysAbove c.number k x)
    (λ _. elim (cases_lt x.number c.number) [ inl lt ↦ inr lt | inr le ↦ inl (in_filter above keeping.kept x i (le-leb c.number x.number le)) ]) (λ _. inl i)

settled_if_stays : (risen : Bool) (o : Option StableCheckpoint) (keeping : Keeping) (low : ℕ) → ((c : StableCheckpoint) → o ≡ Some c → risen ≡ true → c.number ≤ low)
    → (x : Kept) → IsIn x keeping.kept → StaysAbove low (settled_if risen o keeping) x
settled_if_stays risen None keeping low up x i = inl i
settled_if_stays true (Some c) keeping low up x i = elim (settled_stays c keeping x i) [ inl kept ↦ inl kept | inr lt ↦ let le = up c refl refl in inr (omega (arith, lt, le)) ]
settled_if_stays false (Some c) keeping low up x i = inl i

settled_by_stays : (s : State) (h : Header) (keeping : Keeping) (low : ℕ) → (makes_stable s h ≡ true → low ≡ h.number) → (x : Kept) → IsIn x keeping.kept → StaysAbove low (settled_by s h keeping) x
settled_by_stays s h keeping low up x i =
    let c = told_checkpoint h.number h.digest s.log in
    cond_both (makes_stable s h) (settled c keeping) keeping (λ (k : Keeping). StaysAbove low k x)
    (λ e. elim (settled_stays c keeping x i) [ inl kept ↦ inl kept | inr lt ↦ let is = up e in inr (omega (arith, lt, is)) ]) (λ _. inl i)

-- What a step keeps ---------------------------------------------------------------------------------------------------

abbrev pub Stays : (node now : Node) → Type 0
Stays node now = (x : Kept) → IsIn x node.snapshots.kept → StaysAbove now.order.low now.snapshots x

if_stays : (node : Node) (r : Option NodeError) (out : Outcome) → Stays node out.now → Stays node (unless r node out).now
if_stays node None out stays = stays
if_stays node (Some refused) out stays = λ x i. inl i

rests_stays : (node now : Node) → Rests node now → Stays node now
rests_stays node now rests x i = inl (subst (λ (keeping : Keeping). IsIn x keeping.kept) (sym rests.1) i)

-- a CHECKPOINT that makes its number stable raises the low mark to it
accepted_low : (keys : Keys) (s : State) (m : Signed OrderMessage) → makes_stable (with_message s m) (header m) ≡ true → (accepted keys s m).now.low ≡ (header m).number
accepted_low keys s m e =
    let h = header m in
    let five = eqb-true h.tag 5 (and_parts (h.tag == checkpoint_tag) (is_stable s.f (known (with_message s m)) h.number h.digest) e).0 in
    let none = no_answers keys (with_message s m) h five in
    let same : with_more (with_message s m) (answers keys s m) ≡ with_message s m = ap (with_more (with_message s m)) none ∙ ap (λ (l : Log). record s { log = l }) (append-nil (s.log ++ m ∷ [])) in
    ap (λ (u : State). cond (makes_stable u h) h.number s.low) same ∙ ap (λ (b : Bool). cond b h.number s.low) e

order_stays : (node : Node) (m : Signed OrderMessage) → Stays node (ordered node m).now
order_stays node m = settled_by_stays (with_message node.order m) (header m) node.snapshots (ordered node m).now.order.low (accepted_low node.keys node.order m)

-- a low mark that rises, where a view is entered, rises to the number that the view begins behind
risen : (keys : Keys) (s : State) (stable : Option StableCheckpoint) (c : StableCheckpoint) → stable ≡ Some c → s.low < (raised keys s stable).low → c.number ≤ (raised keys s stable).low
risen keys s stable c is = raised_either (λ (u : State). s.low < u.low → c.number ≤ u.low) keys s stable
    (λ d at _ _ _. let same : d ≡ c = some_is d c (sym at ∙ is) in let number = ap (λ (y : StableCheckpoint). y.number) same in omega (arith, number)) (λ lt. absurd (omega (arith, lt)))

entered_stays : (node : Node) (s : Signed model.NewView) → Stays node (entered_by node s).now
entered_stays node s =
    let stable = latest_checkpoint (messages_of s.message.changes) in
    let now = (entered_by node s).now in
    let low = entered_low node.keys node.order s.message.view stable s.message.proposals in
    settled_if_stays (nat_lt node.order.low now.order.low) stable node.snapshots now.order.low
    (λ c is rose.
    let lt = ltb-true node.order.low now.order.low rose in
    let le = risen node.keys node.order stable c is (omega (arith, lt, low)) in
    omega (arith, le, low))

due_stays : (node : Node) → Stays node (begun_if_due node).now
due_stays node = elim (may_begin node) as (λ b. Stays node (cond b (begun node) (still node)).now) [
  | true ↦ entered_stays node (signed_new_view node.keys (own_new_view node))
  | false ↦ λ x i. inl i
]

change_stays : (node : Node) (s : Signed model.ViewChange) → Stays node (with_view_change node s).now
change_stays node s =
    let kept = record node { changes = with_change node.changes s } in
    elim (leads node s.message.view) as (λ b. Stays node (cond b (begun_if_due kept) (still (record node { changes = with_asked node.changes s.message }))).now) [
      | true ↦ due_stays kept
      | false ↦ λ x i. inl i
    ]

leaves_stays : (node : Node) (view : ℕ) → Stays node (outcome node (LeavesFor view)).now
leaves_stays node view = if_stays node (leaving_refusal node view) (left_for node view) (change_stays (record node { order = (left node.order view).now }) (own_change node view))

message_stays : (node : Node) (m : Message) (auth : Authenticator) → Stays node (outcome node (Takes (record { message = m; auth = auth }))).now
message_stays node (Request request) auth =
    let signed : Signed Message = record { message = Request request; auth = auth } in
    if_stays node (request_refusal node (request_in signed request)) (with_request node (request_in signed request)) (λ x i. inl i)
message_stays node (Order m) auth =
    let signed = order_in (record { message = Order m; auth = auth }) m in
    if_stays node (order_refusal node signed) (ordered node signed) (order_stays node signed)
message_stays node (ViewChange change) auth =
    let s : Signed model.ViewChange = record { message = change; auth = auth } in
    if_stays node (change_refusal node s) (with_view_change node s) (change_stays node s)
message_stays node (NewView new) auth =
    let s : Signed model.NewView = record { message = new; auth = auth } in
    if_stays node (view_refusal node s) (with_new_view node s) (entered_stays node s)
message_stays node (Reply reply) auth = λ x i. inl i

bytes_stays : (node : Node) (bytes : List ℕ) → Stays node (outcome node (Delivers bytes)).now
bytes_stays node bytes = elim (message_of bytes) as (λ o. Stays node (unless (bytes_refusal node o) node (bytes_delivered node o)).now) [
  | None ↦ λ x i. inl i
  | Some m ↦ message_stays node m.message m.auth
]

-- a checkpoint of its own: what was kept, and its snapshot
pub told_stays : (node : Node) (files : FileSystem) (x : Kept)
    → IsIn x (with_snapshot node.snapshots node.order.last (snapshot_of files node.table)).kept → StaysAbove (checkpointed node files).now.order.low (checkpointed node files).now.snapshots x
told_stays node files x i =
    let snapshot = snapshot_of files node.table in
    let own = order.checkpoint node.keys node.order node.order.last snapshot.digest in
    settled_by_stays (with_message node.order own) (header own) (with_snapshot node.snapshots node.order.last snapshot) (checkpointed node files).now.order.low
    (λ e. ap (λ (b : Bool). cond b node.order.last node.order.low) e) x i

tells_stays : (node : Node) → Stays node (outcome node Checkpoints).now
tells_stays node = go (checkpoint_refusal node) node.files
  where
    go : (r : Option NodeError) (files : Option FileSystem) → Stays node (unless r node (or_still node (option_map (checkpointed node) files))).now
    go (Some refused) files x i = inl i
    go None None x i = inl i
    go None (Some files) x i = told_stays node files x (left_in node.snapshots.kept _ x i)

adopts_stays : (node : Node) (c : StableCheckpoint) (files : FileSystem) (table : Table) → Stays node (outcome node (Adopts c files table)).now
adopts_stays node c files table =
    cond_both (may_adopt node c && bytes_eq (node_digest files table) c.digest) (still (adopted node c files table)) (still node) (λ (out : Outcome). Stays node out.now)
    (λ _ x i. elim (settled_stays c (with_snapshot node.snapshots c.number (snapshot_of files table)) x (left_in node.snapshots.kept _ x i)) [
      | inl kept ↦ inl kept
      | inr lt ↦ inr (omega (arith, lt))
    ])
    (λ _ x i. inl i)

settles_stays : (node : Node) (c : StableCheckpoint) → Stays node (outcome node (Settles c)).now
settles_stays node c = if_stays node (settling_refusal node c) (still (settling node c)) (λ x i. elim (settled_stays c node.snapshots x i) [ inl kept ↦ inl kept | inr lt ↦ inr (omega (arith, lt)) ])

pub step_stays : (node : Node) (step : NodeStep) → Stays node (outcome node step).now
step_stays node (Delivers bytes) = bytes_stays node bytes
step_stays node (Takes signed) = message_stays node signed.message signed.auth
step_stays node (TakesRequests messages) = rests_stays node (outcome node (TakesRequests messages)).now (requests_rest node messages)
step_stays node (TakesOffered request) = rests_stays node (outcome node (TakesOffered request)).now (offered_rests node request)
step_stays node (Proposes time) = rests_stays node (outcome node (Proposes time)).now (proposes_rests node time)
step_stays node Executes = rests_stays node (outcome node Executes).now (executes_rests node)
step_stays node Fails = λ x i. inl i
step_stays node Checkpoints = tells_stays node
step_stays node TimesOut = leaves_stays node (next_view node.order)
step_stays node (LeavesFor view) = leaves_stays node view
step_stays node ForgetsAnswered = λ x i. inl i
step_stays node ForgetsProposed = λ x i. inl i
step_stays node (Adopts c files table) = adopts_stays node c files table
step_stays node (Settles c) = settles_stays node c
