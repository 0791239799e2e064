-- What comes to a node fits: so the views and the numbers of what it takes, and of what it hands over into a view, are below 2^63.
use Rattle.std.proofs.Common.{◌≡◌, ℕ, true, false, cond, ◌&&◌, List, [], ◌∷◌, Ok, Option, Some, None, refl, sym, ap, subst, arith}
use Rattle.std.specs.Prelude.{bytes_eq}
use Rattle.bfs_auth.specs.declared.authenticators.Authenticator.{Authenticator}
use Rattle.bfs_checkpoints.specs.Texts.{node_digest}
use Rattle.bfs_codec.specs.Reading.{message_of}
use Rattle.bfs_codec.proofs.Public.{spelled}
use Rattle.bfs_messages.specs.Fits.{FitsMessage}
use Rattle.bfs_messages.specs.Messages as model
use Rattle.bfs_messages.specs.Signing.{as_message}
use Rattle.bfs_messages.specs.declared.signed.Signed.{Signed}
use Rattle.bfs_messages.specs.declared.message.Message.{Message}
use Rattle.bfs_messages.specs.declared.message.Message.TheVariants.{Request, Order, ViewChange, NewView, Reply}
use Rattle.bfs_model.specs.Server.Tree.{FileSystem}
use Rattle.bfs_order.specs.Laws.Calls as order
use Rattle.bfs_order.specs.Replica.Outcomes as outcomes
use Rattle.bfs_order.specs.Replica.States.{State}
use Rattle.bfs_order.specs.Replica.Views as views
use Rattle.bfs_order.specs.declared.error.OrderError.{OrderError}
use Rattle.bfs_view_change.specs.Changes.Keeping.{changes_for, with_asked, with_change}
use Rattle.bfs_view_change.specs.Changes.NewViews.{latest_checkpoint}
use Rattle.bfs_view_change.specs.Changes.ViewChanges.{messages_of}
use Rattle.bfs_node.specs.Adopting.{may_adopt}
use Rattle.bfs_node.specs.Changing.{begun, begun_if_due, change_refusal, leads, leaving_refusal, may_begin, next_view, own_change, own_new_view, view_refusal, with_view_change}
use Rattle.bfs_node.specs.Checkpoints.{checkpoint_refusal}
use Rattle.bfs_node.specs.Executing.{is_ready}
use Rattle.bfs_node.specs.Nodes.{Node, Outcome}
use Rattle.bfs_node.specs.Settling.{settling_refusal}
use Rattle.bfs_node.specs.declared.error.NodeError.{NodeError}
use Rattle.bfs_nodes_agree.specs.Nodes.Premises.{Comes}
use Rattle.bfs_nodes_agree.specs.Nodes.Resending as resending
use Rattle.bfs_nodes_agree.specs.Nodes.Steps.{NodeStep, Delivers, Takes, TakesRequests, TakesOffered, Proposes, Executes, Fails, Checkpoints, TimesOut, LeavesFor, ForgetsAnswered, ForgetsProposed, Adopts, Settles, begun_deeds, bytes_deeds, change_deeds, checkpoint_deeds, deeds_for, deeds_of, leaving_deeds, message_deeds, outcome, still, where_taken}
use Rattle.bfs_nodes_agree.specs.Views.Replicas as turns
use Rattle.bfs_nodes_agree.specs.Views.Replicas.{ViewDeed}
use Rattle.bfs_nodes_agree.proofs.Public.{AllIn, AreKept, BringAll, IsBounded, Left, Rested, TookChange, TookNewView, kept_above, kept_with, left_bounded, not_refused, step_kind}
use Rattle.bfs_places.proofs.Numbers.{IsLow, IsNumbered, change_low, made_low, new_numbered, order_numbered, own_numbered, shows_numbered, told_numbered}

-- What it keeps -------------------------------------------------------------------------------------------------------------

begun_kept : (f : ℕ) (node : Node) → AreKept IsLow f node.changes → AreKept IsLow f (begun_if_due node).now.changes
begun_kept f node kept = elim (may_begin node) as (λ b. AreKept IsLow f (cond b (begun node) (still node)).now.changes) [ true ↦ kept_above IsLow f node.order.asked node.changes kept | false ↦ kept ]

change_kept : (f : ℕ) (node : Node) (s : Signed model.ViewChange) → IsLow s → AreKept IsLow f node.changes → AreKept IsLow f (with_view_change node s).now.changes
change_kept f node s low kept =
    let there = record node { changes = with_change node.changes s } in
    let noted = record node { changes = with_asked node.changes s.message } in
    elim (leads node s.message.view) as (λ b. AreKept IsLow f (cond b (begun_if_due there) (still noted)).now.changes) [ true ↦ begun_kept f there (kept_with IsLow f node.changes s low kept) | false ↦ kept ]

message_fits : (P : Signed Message → Type 0) (step : NodeStep) (m : Signed Message) → Comes P step → resending.Brings step m → FitsMessage m.message
message_fits P (Delivers bytes) m comes is = (spelled bytes (Ok m) comes.0 is).1.0
message_fits P (Takes signed) m comes is = subst (λ (x : Signed Message). FitsMessage x.message) is comes.0
message_fits P step m comes is = absurd is

-- its own VIEW-CHANGE is made of its log
pub step_kept : (f : ℕ) (P : Signed Message → Type 0) (node : Node) (step : NodeStep) → Comes P step → AllIn IsNumbered node.order.log → AreKept IsLow f node.changes → AreKept IsLow f (outcome node step).now.changes
step_kept f P node step comes log kept = elim (step_kind node step) [
  | Rested rests ↦ subst (AreKept IsLow f) (sym rests.changes) kept
  | TookChange t ↦ subst (λ (out : Outcome). AreKept IsLow f out.now.changes) (sym t.is) (change_kept f node t.change (change_low t.change.message (message_fits P step (as_message ViewChange t.change) comes t.came)) kept)
  | TookNewView t ↦ subst (λ (out : Outcome). AreKept IsLow f out.now.changes) (sym t.is) (kept_above IsLow f t.new.message.view node.changes kept)
  | Left l ↦
      let gone = record node { order = (views.left node.order l.view).now } in
      subst (λ (out : Outcome). AreKept IsLow f out.now.changes) (sym l.is) (change_kept f gone (own_change node l.view) (made_low node.order l.view log) kept)
]

-- What it takes and hands over ------------------------------------------------------------------------------------------------

begun_brings : (f : ℕ) (node : Node) → IsBounded node.order → AreKept IsLow f node.changes → BringAll IsNumbered node.order (begun_deeds node)
begun_brings f node bounded kept =
    let asked = node.order.asked in
    let changes = changes_for asked node.changes in
    elim (may_begin node) as (λ b. BringAll IsNumbered node.order (cond b (turns.ChangesView node.keys asked changes (own_new_view node).proposals ∷ []) [])) [
      | true ↦ ((own_numbered f node bounded kept, shows_numbered node.order node.keys (latest_checkpoint (messages_of changes))), tt)
      | false ↦ tt
    ]

change_brings : (f : ℕ) (node : Node) (s : Signed model.ViewChange) → IsBounded node.order → IsLow s → AreKept IsLow f node.changes → BringAll IsNumbered node.order (change_deeds node s)
change_brings f node s bounded low kept =
    let there = record node { changes = with_change node.changes s } in
    elim (leads node s.message.view) as (λ b. BringAll IsNumbered node.order (cond b (begun_deeds there) [])) [ true ↦ begun_brings f there bounded (kept_with IsLow f node.changes s low kept) | false ↦ tt ]

-- deeds where nothing is refused
where_none : (s : State) (r : Option NodeError) (deeds : List ViewDeed) → (r ≡ None → BringAll IsNumbered s deeds) → BringAll IsNumbered s (where_taken r deeds)
where_none s r deeds taken = (elim r as (λ o. r ≡ o → BringAll IsNumbered s (where_taken o deeds)) [ None ↦ taken | Some refused ↦ λ _. tt ]) refl

leaving_brings : (f : ℕ) (node : Node) (view : ℕ) → AllIn IsNumbered node.order.log → AreKept IsLow f node.changes → BringAll IsNumbered node.order (deeds_for node view)
leaving_brings f node view log kept =
    let gone = record node { order = (views.left node.order view).now } in
    let own = own_change node view in
    where_none node.order (leaving_refusal node view) (leaving_deeds node view) (λ none.
    let may = not_refused (views.leaving_refusal node.order view) none in
    let left_is : (order.outcome node.order (order.Leaves view)).now ≡ gone.order = ap (λ (r : Option OrderError). (outcomes.unless r node.order (views.left node.order view)).now) may in
    (tt, subst (λ (s : State). BringAll IsNumbered s (change_deeds gone own)) (sym left_is) (change_brings f gone own (left_bounded node.order view may) (made_low node.order view log) kept)))

module _ (f : ℕ) (P : Signed Message → Type 0) (node : Node) (bounded : IsBounded node.order) (log : AllIn IsNumbered node.order.log) (kept : AreKept IsLow f node.changes) where
  abbrev BroughtBy : List ViewDeed → Type 0
  BroughtBy deeds = BringAll IsNumbered node.order deeds

  message_brings : (m : Message) (auth : Authenticator) → FitsMessage m → BroughtBy (message_deeds node (record { message = m; auth = auth }) m)
  message_brings (Request request) auth fits = tt
  message_brings (Order m) auth fits = ((λ none. order_numbered m auth fits), tt)
  message_brings (ViewChange change) auth fits =
      let s : Signed model.ViewChange = record { message = change; auth = auth } in
      where_none node.order (change_refusal node s) (change_deeds node s) (λ none. change_brings f node s bounded (change_low change fits) kept)
  message_brings (NewView new) auth fits =
      let s : Signed model.NewView = record { message = new; auth = auth } in
      where_none node.order (view_refusal node s) (turns.ChangesView node.keys new.view new.changes new.proposals ∷ [])
      (λ none. ((new_numbered new fits, shows_numbered node.order node.keys (latest_checkpoint (messages_of new.changes))), tt))
  message_brings (Reply reply) auth fits = tt

  checkpoint_brings : (files : Option FileSystem) → BroughtBy (checkpoint_deeds node files)
  checkpoint_brings None = tt
  checkpoint_brings (Some files) = ((λ small. absurd (omega (arith, small))), tt)

  pub step_brings : (step : NodeStep) → Comes P step → BroughtBy (deeds_of node step)
  step_brings (Delivers bytes) comes = (elim (message_of bytes) as (λ o. message_of bytes ≡ o → BroughtBy (bytes_deeds node o)) [
    | None ↦ λ _. tt
    | Some m ↦ λ is. message_brings m.message m.auth (message_fits P (Delivers bytes) m comes is)
  ]) refl
  step_brings (Takes signed) comes = message_brings signed.message signed.auth comes.0
  step_brings (TakesRequests messages) comes = tt
  step_brings (TakesOffered request) comes = tt
  step_brings (Proposes time) comes = (tt, tt)
  step_brings Executes comes = elim (is_ready node) as (λ b. BroughtBy (cond b (turns.Orders order.Executes ∷ []) [])) [ true ↦ (tt, tt) | false ↦ tt ]
  step_brings Fails comes = tt
  step_brings Checkpoints comes = where_none node.order (checkpoint_refusal node) (checkpoint_deeds node node.files) (λ _. checkpoint_brings node.files)
  step_brings TimesOut comes = leaving_brings f node (next_view node.order) log kept
  step_brings (LeavesFor view) comes = leaving_brings f node view log kept
  step_brings ForgetsAnswered comes = tt
  step_brings ForgetsProposed comes = tt
  step_brings (Adopts certificate files table) comes =
      elim (may_adopt node certificate && bytes_eq (node_digest files table) certificate.digest) as (λ b. BroughtBy (cond b (turns.Orders (order.Installs node.keys certificate) ∷ []) [])) [
        | true ↦ ((λ _. told_numbered certificate), tt)
        | false ↦ tt
      ]
  step_brings (Settles certificate) comes =
      where_none node.order (settling_refusal node certificate) (turns.Orders (order.Installs node.keys certificate) ∷ []) (λ _. ((λ _. told_numbered certificate), tt))
