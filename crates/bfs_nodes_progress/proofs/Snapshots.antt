-- The snapshots that nodes keep, and the CHECKPOINTs that they have sent, are of states that they were in.
use Rattle.std.proofs.Common.{◌≡◌, ℕ, ◌<◌, ◌==◌, Bool, true, false, cond, ◌&&◌, not, List, [], ◌∷◌, ◌++◌, max, filter, ◌⊎◌, Option, Some, None, option_map, bytes_eq, inl, inr, refl, sym, ap, subst, ◌∙◌, arith}
use Rattle.std.specs.Prelude.{is_some, nat_le, nat_lt}
use Rattle.std.proofs.lemmas.Bool.{and_parts, cond_both, eqb-true, ltb-true, or_cases}
use Rattle.bfs_auth.specs.declared.authenticators.Authenticator.{Authenticator}
use Rattle.bfs_checkpoints.specs.Certificates.{told_checkpoint}
use Rattle.bfs_checkpoints.specs.Keeping.{Keeping, Kept, settled, settles, with_snapshot}
use Rattle.bfs_checkpoints.specs.Snapshots.{snapshot_of}
use Rattle.bfs_checkpoints.specs.Texts.{node_digest}
use Rattle.bfs_codec.specs.Reading.{message_of}
use Rattle.bfs_log.specs.Certificates.{StableCheckpoint, is_shown}
use Rattle.bfs_log.specs.Headers.{header}
use Rattle.bfs_messages.specs.Messages as model
use Rattle.bfs_messages.specs.declared.signed.Signed.{Signed}
use Rattle.bfs_messages.specs.declared.message.Message.{Message}
use Rattle.bfs_messages.specs.declared.message.Message.TheVariants.{Request, Order, ViewChange, NewView, Reply}
use Rattle.bfs_messages.specs.declared.order_messages.OrderMessage.TheVariants.{Checkpoint}
use Rattle.bfs_model.specs.Server.Tree.{FileSystem}
use Rattle.bfs_order.specs.Replica.Accepting.{makes_stable}
use Rattle.bfs_order.specs.Replica.Checkpoints as order
use Rattle.bfs_order.specs.Replica.States.{State, with_message}
use Rattle.bfs_order.specs.Replica.Views.{left}
use Rattle.bfs_order.specs.Replica.Views as views
use Rattle.bfs_replies.specs.Tables.{Table}
use Rattle.bfs_votes.specs.Votes.{Header}
use Rattle.bfs_agreement.specs.Histories.{IsIn, World, FewAreFaulty}
use Rattle.bfs_node.specs.Adopting.{adopted, is_ahead, may_adopt}
use Rattle.bfs_node.specs.Changing.{begun, begun_if_due, change_refusal, entered_by, leads, leaving_refusal, left_for, may_begin, next_view, own_change, own_new_view, settled_if, view_refusal, with_new_view, with_view_change}
use Rattle.bfs_node.specs.Checkpoints.{checkpoint_refusal, checkpointed}
use Rattle.bfs_node.specs.Delivering.{bytes_delivered, bytes_refusal, order_in, order_refusal, ordered, request_in, request_refusal, settled_by, with_request}
use Rattle.bfs_node.specs.Nodes.{Node, Outcome}
use Rattle.bfs_node.specs.Settling.{settling, settling_refusal}
use Rattle.bfs_node.specs.declared.error.NodeError.{NodeError}
use Rattle.bfs_nodes_agree.specs.Nodes.Premises.{AreAuthentic, Comes, IsAuthentic}
use Rattle.bfs_nodes_agree.specs.Nodes.Replicas.{Beginning, Keyring, NodeReplica, NodeReplicas, NodeTurn, Standing, after_node_step, after_node_turn, after_node_turns, beginning_node, new_node_replicas, standing_of, standing_with}
use Rattle.bfs_nodes_agree.specs.Nodes.Steps.{NodeStep, Delivers, Takes, TakesRequests, TakesOffered, Proposes, Executes, Fails, Checkpoints, TimesOut, LeavesFor, ForgetsAnswered, ForgetsProposed, Adopts, Settles, or_still, outcome, still, unless}
use Rattle.bfs_nodes_agree.specs.Orders.Replicas.{OrderReplicas}
use Rattle.bfs_nodes_agree.proofs.Public.{both_at, either_in, filter_in, right_in, step_right}
use Rattle.bfs_nodes_progress.specs.CatchingUp.{IsOfAState}
use Rattle.bfs_nodes_progress.specs.Inside.Below.{Below}
use Rattle.bfs_nodes_progress.proofs.Reached.{Facts, step_on}
use Rattle.bfs_nodes_progress.proofs.Resting.{Rests, executes_rests, offered_rests, proposes_rests, requests_rest}
use Rattle.bfs_view_change.specs.Changes.Keeping.{with_asked, with_change}
use Rattle.bfs_view_change.specs.Changes.Making.{signed_new_view}
use Rattle.bfs_view_change.specs.Changes.NewViews.{latest_checkpoint}
use Rattle.bfs_view_change.specs.Changes.ViewChanges.{messages_of}

-- What is kept --------------------------------------------------------------------------------------------------------

-- all that one keeps the other does
abbrev AreFrom : Keeping → (now : Keeping) → Type 0
AreFrom before now = (x : Kept) → IsIn x now.kept → IsIn x before.kept

settled_from : (c : StableCheckpoint) (keeping : Keeping) → AreFrom keeping (settled c keeping)
settled_from c keeping = cond_both (settles c keeping) (record keeping { kept = filter (λ kept. nat_le c.number kept.number) keeping.kept; stable = Some c }) keeping (AreFrom keeping)
    (λ _. filter_in (λ (x : Kept). IsIn x keeping.kept) (λ (x : Kept). nat_le c.number x.number) keeping.kept (λ x i. i)) (λ _ x i. i)

settled_if_from : (risen : Bool) (o : Option StableCheckpoint) (keeping : Keeping) → AreFrom keeping (settled_if risen o keeping)
settled_if_from risen None keeping x i = i
settled_if_from true (Some c) keeping x i = settled_from c keeping x i
settled_if_from false (Some c) keeping x i = i

settled_by_from : (s : State) (h : Header) (keeping : Keeping) → AreFrom keeping (settled_by s h keeping)
settled_by_from s h keeping =
    let c = told_checkpoint h.number h.digest s.log in
    cond_both (makes_stable s h) (settled c keeping) keeping (AreFrom keeping) (λ _. settled_from c keeping) (λ _ x i. i)

-- What a step keeps ---------------------------------------------------------------------------------------------------

-- of the state that the node was in, or of the one that it is in
abbrev pub IsNew : (node now : Node) → Kept → Type 0
IsNew node now x = ((files : FileSystem) × (node.files ≡ Some files) × (x ≡ record { number = node.order.last; snapshot = snapshot_of files node.table }))
    ⊎ ((files : FileSystem) × (now.files ≡ Some files) × (x ≡ record { number = now.order.last; snapshot = snapshot_of files now.table }))

abbrev pub Keeps : (node now : Node) → Type 0
Keeps node now = (x : Kept) → IsIn x now.snapshots.kept → IsIn x node.snapshots.kept ⊎ IsNew node now x

no_new : (node now : Node) → AreFrom node.snapshots now.snapshots → Keeps node now
no_new node now from x i = inl (from x i)

rests_keeps : (node now : Node) → Rests node now → Keeps node now
rests_keeps node now rests x i = inl (subst (λ (keeping : Keeping). IsIn x keeping.kept) rests.1 i)

if_keeps : (node : Node) (r : Option NodeError) (out : Outcome) → AreFrom node.snapshots out.now.snapshots → AreFrom node.snapshots (unless r node out).now.snapshots
if_keeps node None out from = from
if_keeps node (Some refused) out from = λ x i. i

entered_keeps : (node : Node) (s : Signed model.NewView) → AreFrom node.snapshots (entered_by node s).now.snapshots
entered_keeps node s =
    let stable = latest_checkpoint (messages_of s.message.changes) in
    settled_if_from (nat_lt node.order.low (views.entered node.keys node.order s.message.view stable s.message.proposals).now.low) stable node.snapshots

due_keeps : (node : Node) → AreFrom node.snapshots (begun_if_due node).now.snapshots
due_keeps node = elim (may_begin node) as (λ b. AreFrom node.snapshots (cond b (begun node) (still node)).now.snapshots) [
  | true ↦ entered_keeps node (signed_new_view node.keys (own_new_view node))
  | false ↦ λ x i. i
]

change_keeps : (node : Node) (s : Signed model.ViewChange) → AreFrom node.snapshots (with_view_change node s).now.snapshots
change_keeps node s =
    let kept = record node { changes = with_change node.changes s } in
    elim (leads node s.message.view) as (λ b. AreFrom node.snapshots (cond b (begun_if_due kept) (still (record node { changes = with_asked node.changes s.message }))).now.snapshots) [
      | true ↦ due_keeps kept
      | false ↦ λ x i. i
    ]

leaves_keeps : (node : Node) (view : ℕ) → AreFrom node.snapshots (outcome node (LeavesFor view)).now.snapshots
leaves_keeps node view = if_keeps node (leaving_refusal node view) (left_for node view) (change_keeps (record node { order = (left node.order view).now }) (own_change node view))

message_keeps : (node : Node) (m : Message) (auth : Authenticator) → AreFrom node.snapshots (outcome node (Takes (record { message = m; auth = auth }))).now.snapshots
message_keeps node (Request request) auth =
    let signed : Signed Message = record { message = Request request; auth = auth } in
    if_keeps node (request_refusal node (request_in signed request)) (with_request node (request_in signed request)) (λ x i. i)
message_keeps node (Order m) auth =
    let signed = order_in (record { message = Order m; auth = auth }) m in
    if_keeps node (order_refusal node signed) (ordered node signed) (settled_by_from (with_message node.order signed) (header signed) node.snapshots)
message_keeps node (ViewChange change) auth =
    let s : Signed model.ViewChange = record { message = change; auth = auth } in
    if_keeps node (change_refusal node s) (with_view_change node s) (change_keeps node s)
message_keeps node (NewView new) auth =
    let s : Signed model.NewView = record { message = new; auth = auth } in
    if_keeps node (view_refusal node s) (with_new_view node s) (entered_keeps node s)
message_keeps node (Reply reply) auth = λ x i. i

bytes_keeps : (node : Node) (bytes : List ℕ) → AreFrom node.snapshots (outcome node (Delivers bytes)).now.snapshots
bytes_keeps node bytes = elim (message_of bytes) as (λ o. AreFrom node.snapshots (unless (bytes_refusal node o) node (bytes_delivered node o)).now.snapshots) [
  | None ↦ λ x i. i
  | Some m ↦ message_keeps node m.message m.auth
]

-- the last of a list
either_last : {A : Type 0} (xs : List A) (y x : A) → IsIn x (xs ++ y ∷ []) → IsIn x xs ⊎ (x ≡ y)
either_last xs y x i = elim (either_in xs (y ∷ []) x i) [ inl j ↦ inl j | inr j ↦ elim j [ inl e ↦ inr e | inr none ↦ absurd none ] ]

tells_keeps : (node : Node) → Keeps node (outcome node Checkpoints).now
tells_keeps node = go (checkpoint_refusal node) node.files refl
  where
    go : (r : Option NodeError) (files : Option FileSystem) → node.files ≡ files → Keeps node (unless r node (or_still node (option_map (checkpointed node) files))).now
    go (Some refused) files is x i = inl i
    go None None is x i = inl i
    go None (Some files) is x i =
        let snapshot = snapshot_of files node.table in
        let own = order.checkpoint node.keys node.order node.order.last snapshot.digest in
        let from = settled_by_from (with_message node.order own) (header own) (with_snapshot node.snapshots node.order.last snapshot) x i in
        elim (either_last node.snapshots.kept (record { number = node.order.last; snapshot = snapshot }) x from) [
          | inl old ↦ inl old
          | inr new ↦ inr (inl (files, is, new))
        ]

-- it has executed up to what it adopts then
pub ahead_is : (node : Node) (number : ℕ) → is_ahead node number ≡ true → max node.order.last number ≡ number
ahead_is node number e = elim (or_cases (nat_lt node.order.last number) ((number == node.order.last) && not (is_some node.files)) e) [
  | inl a ↦ let lt = ltb-true node.order.last number a in omega (arith, lt)
  | inr b ↦ let same = eqb-true number node.order.last (and_parts (number == node.order.last) (not (is_some node.files)) b).0 in omega (arith, same)
]

adopts_keeps : (node : Node) (certificate : StableCheckpoint) (files : FileSystem) (table : Table) → Keeps node (outcome node (Adopts certificate files table)).now
adopts_keeps node certificate files table = go (may_adopt node certificate && bytes_eq (node_digest files table) certificate.digest) refl
  where
    go : (b : Bool) → (may_adopt node certificate && bytes_eq (node_digest files table) certificate.digest) ≡ b → Keeps node (cond b (still (adopted node certificate files table)) (still node)).now
    go false e x i = inl i
    go true e x i =
        let may = (and_parts (may_adopt node certificate) (bytes_eq (node_digest files table) certificate.digest) e).0 in
        let ahead = ahead_is node certificate.number (and_parts (is_shown node.keys node.order.f certificate) (is_ahead node certificate.number) may).1 in
        let snapshot = snapshot_of files table in
        let from = settled_from certificate (with_snapshot node.snapshots certificate.number snapshot) x i in
        elim (either_last node.snapshots.kept (record { number = certificate.number; snapshot = snapshot }) x from) [
          | inl old ↦ inl old
          | inr new ↦ inr (inr (files, refl, new ∙ ap (λ (n : ℕ). record { number = n; snapshot = snapshot }) (sym ahead)))
        ]

pub step_keeps : (node : Node) (step : NodeStep) → Keeps node (outcome node step).now
step_keeps node (Delivers bytes) = no_new node (outcome node (Delivers bytes)).now (bytes_keeps node bytes)
step_keeps node (Takes signed) = no_new node (outcome node (Takes signed)).now (message_keeps node signed.message signed.auth)
step_keeps node (TakesRequests messages) = rests_keeps node (outcome node (TakesRequests messages)).now (requests_rest node messages)
step_keeps node (TakesOffered request) = rests_keeps node (outcome node (TakesOffered request)).now (offered_rests node request)
step_keeps node (Proposes time) = rests_keeps node (outcome node (Proposes time)).now (proposes_rests node time)
step_keeps node Executes = rests_keeps node (outcome node Executes).now (executes_rests node)
step_keeps node Fails = λ x i. inl i
step_keeps node Checkpoints = tells_keeps node
step_keeps node TimesOut = no_new node (outcome node TimesOut).now (leaves_keeps node (next_view node.order))
step_keeps node (LeavesFor view) = no_new node (outcome node (LeavesFor view)).now (leaves_keeps node view)
step_keeps node ForgetsAnswered = λ x i. inl i
step_keeps node ForgetsProposed = λ x i. inl i
step_keeps node (Adopts certificate files table) = adopts_keeps node certificate files table
step_keeps node (Settles certificate) =
    no_new node (outcome node (Settles certificate)).now (if_keeps node (settling_refusal node certificate) (still (settling node certificate)) (settled_from certificate node.snapshots))

-- Runs ----------------------------------------------------------------------------------------------------------------

-- where a node is with that file system
abbrev standing_at : Node → FileSystem → Standing
standing_at node files = record { number = node.order.last; files = files; table = node.table }

-- a CHECKPOINT tells of a state that the node was in
pub record TellsAState (r : NodeReplica) (c : model.Checkpoint) : Type 0 where
  pub standing : Standing
  pub reached : IsIn standing r.reached
  pub number : standing.number ≡ c.number
  pub digest : c.digest ≡ node_digest standing.files standing.table

pub record HasStates (r : NodeReplica) : Type 0 where
  pub here : (files : FileSystem) → r.node.files ≡ Some files → IsIn (standing_at r.node files) r.reached
  pub kept : (x : Kept) → IsIn x r.node.snapshots.kept → IsOfAState r x
  pub told : (s : Signed Message) (c : model.Checkpoint) → IsIn s r.sent → s.message ≡ Order (Checkpoint c) → TellsAState r c

here_now : (node : Node) (files : FileSystem) (rest : List Standing) → node.files ≡ Some files → IsIn (standing_at node files) (standing_of node ++ rest)
here_now node files rest e = subst (λ (o : Option FileSystem). IsIn (standing_at node files) (standing_with node o ++ rest)) (sym e) (inl refl)

module _ (laws : Below) (f : ℕ) (faulty : ℕ → Bool) (positive : 0 < f) (few : FewAreFaulty f faulty) where
  states_on : (w : NodeReplicas) (v : OrderReplicas) (t : World) → Facts f faulty w v t → (turn : NodeTurn) → Comes (IsAuthentic faulty w (w turn.who).node.keys) turn.step
      → ((j : ℕ) → HasStates (w j)) → (j : ℕ) → HasStates (after_node_turn w turn j)
  states_on w v t facts turn comes all =
      let r = w turn.who in
      let node = r.node in
      let out = outcome node turn.step in
      let has = all turn.who in
      let done = step_right laws.same laws.views laws.written laws.one f faulty w v facts.right turn comes in
      let older = λ (s : Standing) (i : IsIn s r.reached). right_in (standing_of out.now) r.reached s i in
      both_at w turn (λ _ r. HasStates r) (record {
        here = λ files e. here_now out.now files r.reached e;
        kept = λ x i. elim (step_keeps node turn.step x i) [
          | inl old ↦ let was = has.kept x old in record { standing = was.standing; reached = older was.standing was.reached; number = was.number; snapshot = was.snapshot }
          | inr new ↦ elim new as (λ _. IsOfAState (after_node_step r turn.step) x) [
            | inl before ↦ record {
              standing = standing_at node before.0;
              reached = older (standing_at node before.0) (has.here before.0 before.1);
              number = sym (ap (λ (y : Kept). y.number) before.2);
              snapshot = ap (λ (y : Kept). y.snapshot) before.2;
            }
            | inr now ↦ record {
              standing = standing_at out.now now.0;
              reached = here_now out.now now.0 r.reached now.1;
              number = sym (ap (λ (y : Kept). y.number) now.2);
              snapshot = ap (λ (y : Kept). y.snapshot) now.2;
            }
          ]
        ];
        told = λ s c i e. elim (either_in out.sent r.sent s i) [
          | inl new ↦
              let own = (done.sends s new).1.0 c e in
              record { standing = standing_at node own.0; reached = older (standing_at node own.0) (has.here own.0 own.1); number = sym own.2; digest = own.3 }
          | inr old ↦ let was = has.told s c old e in record { standing = was.standing; reached = older was.standing was.reached; number = was.number; digest = was.digest }
        ];
      }) all

  pub all_states : (w : NodeReplicas) (v : OrderReplicas) (t : World) → Facts f faulty w v t → ((j : ℕ) → HasStates (w j)) → (turns : List NodeTurn) → AreAuthentic faulty w turns
      → (j : ℕ) → HasStates (after_node_turns w turns j)
  all_states w v t facts all [] authentic = all
  all_states w v t facts all (turn ∷ turns) authentic =
      let first = step_on laws f faulty positive few w v t facts turn authentic.0 in
      all_states (after_node_turn w turn) first.orders first.world first.facts (states_on w v t facts turn authentic.0 all) turns authentic.1

pub start_states : (f : ℕ) (keys : Keyring) (start : Beginning) (j : ℕ) → HasStates (new_node_replicas f keys start j)
start_states f keys start j = record {
  here = λ files e. here_now (beginning_node f keys start j) files [] e;
  kept = λ x i. absurd i;
  told = λ s c i e. absurd i;
}
