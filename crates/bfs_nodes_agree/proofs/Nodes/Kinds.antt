-- What a step of a node is to views: it takes a VIEW-CHANGE or a NEW-VIEW, or leaves its view, or all of that rests.
use Rattle.std.proofs.Common.{◌≡◌, ℕ, List, Option, Some, None, refl, ap, ◌∙◌}
use Rattle.bfs_auth.specs.declared.authenticators.Authenticator.{Authenticator}
use Rattle.bfs_codec.specs.Reading.{message_of}
use Rattle.bfs_messages.specs.Messages as model
use Rattle.bfs_messages.specs.Signing.{as_message}
use Rattle.bfs_messages.specs.declared.signed.Signed.{Signed}
use Rattle.bfs_messages.specs.declared.message.Message.{Message}
use Rattle.bfs_messages.specs.declared.message.Message.TheVariants.{Request, Order, ViewChange, NewView, Reply}
use Rattle.bfs_node.specs.Changing.{change_refusal, leaving_refusal, left_for, next_view, view_refusal, with_new_view, with_view_change}
use Rattle.bfs_node.specs.Delivering.{bytes_delivered, bytes_refusal, message_delivered, message_refusal}
use Rattle.bfs_node.specs.Nodes.{Node, Outcome}
use Rattle.bfs_nodes_agree.specs.Nodes.Resending.{Brings}
use Rattle.bfs_nodes_agree.specs.Nodes.Steps.{NodeStep, Delivers, Takes, TakesRequests, TakesOffered, Proposes, Executes, Fails, Checkpoints, TimesOut, LeavesFor, ForgetsAnswered, ForgetsProposed, Adopts, Settles, outcome, unless}
use Rattle.bfs_nodes_agree.proofs.Nodes.Resting.{Rests, adopts_rest, executes_rest, forgets_answered_rest, forgets_proposed_rest, if_taken, itself, offered_rest, proposes_rest, requests_rest, settles_rest, tells_rest}

-- a VIEW-CHANGE that comes
pub record TakesChange (node : Node) (comes : Signed Message → Type 0) (out : Outcome) : Type 0 where
  pub change : Signed model.ViewChange
  pub came : comes (as_message ViewChange change)
  pub taken : change_refusal node change ≡ None
  pub is : out ≡ with_view_change node change

-- a NEW-VIEW that comes
pub record TakesNewView (node : Node) (comes : Signed Message → Type 0) (out : Outcome) : Type 0 where
  pub new : Signed model.NewView
  pub came : comes (as_message NewView new)
  pub taken : view_refusal node new ≡ None
  pub is : out ≡ with_new_view node new

pub record Leaves (node : Node) (out : Outcome) : Type 0 where
  pub view : ℕ
  pub taken : leaving_refusal node view ≡ None
  pub is : out ≡ left_for node view

pub data Kind (node : Node) (comes : Signed Message → Type 0) (out : Outcome) : Type 0 where
  Rested : Rests node out.now → Kind node comes out
  TookChange : TakesChange node comes out → Kind node comes out
  TookNewView : TakesNewView node comes out → Kind node comes out
  Left : Leaves node out → Kind node comes out

message_kind : (node : Node) (m : Message) (auth : Authenticator)
    → Kind node (λ x. record { message = m; auth = auth } ≡ x)
    (unless (message_refusal node (record { message = m; auth = auth }) m) node (message_delivered node (record { message = m; auth = auth }) m))
message_kind node (Request request) auth =
    let s : Signed Message = record { message = Request request; auth = auth } in
    Rested (if_taken node (message_refusal node s (Request request)) (message_delivered node s (Request request)) (record { keys = refl; f = refl; me = refl; view = refl; asked = refl; changes = refl; new_view = refl }))
message_kind node (Order message) auth =
    let s : Signed Message = record { message = Order message; auth = auth } in
    Rested (if_taken node (message_refusal node s (Order message)) (message_delivered node s (Order message)) (record { keys = refl; f = refl; me = refl; view = refl; asked = refl; changes = refl; new_view = refl }))
message_kind node (ViewChange change) auth =
    let s : Signed model.ViewChange = record { message = change; auth = auth } in
    (elim (change_refusal node s) as (λ r. change_refusal node s ≡ r → Kind node (λ x. as_message ViewChange s ≡ x) (unless r node (with_view_change node s))) [
      | None ↦ λ none. TookChange (record { change = s; came = refl; taken = none; is = refl })
      | Some refused ↦ λ _. Rested (itself node)
    ]) refl
message_kind node (NewView new) auth =
    let s : Signed model.NewView = record { message = new; auth = auth } in
    (elim (view_refusal node s) as (λ r. view_refusal node s ≡ r → Kind node (λ x. as_message NewView s ≡ x) (unless r node (with_new_view node s))) [
      | None ↦ λ none. TookNewView (record { new = s; came = refl; taken = none; is = refl })
      | Some refused ↦ λ _. Rested (itself node)
    ]) refl
message_kind node (Reply reply) auth = Rested (itself node)

bytes_kind : (node : Node) (bytes : List ℕ) → Kind node (Brings (Delivers bytes)) (outcome node (Delivers bytes))
bytes_kind node bytes = go (message_of bytes) refl
  where
    go : (o : Option (Signed Message)) → message_of bytes ≡ o → Kind node (λ x. message_of bytes ≡ Some x) (unless (bytes_refusal node o) node (bytes_delivered node o))
    go None is = Rested (itself node)
    go (Some m) is = elim (message_kind node m.message m.auth) [
      | Rested rests ↦ Rested rests
      | TookChange t ↦ TookChange (record { change = t.change; came = is ∙ ap (λ (x : Signed Message). Some x) t.came; taken = t.taken; is = t.is })
      | TookNewView t ↦ TookNewView (record { new = t.new; came = is ∙ ap (λ (x : Signed Message). Some x) t.came; taken = t.taken; is = t.is })
      | Left l ↦ Left l
    ]

leaving_kind : (node : Node) (comes : Signed Message → Type 0) (view : ℕ) → Kind node comes (outcome node (LeavesFor view))
leaving_kind node comes view =
    (elim (leaving_refusal node view) as (λ r. leaving_refusal node view ≡ r → Kind node comes (unless r node (left_for node view))) [
      | None ↦ λ none. Left (record { view = view; taken = none; is = refl })
      | Some refused ↦ λ _. Rested (itself node)
    ]) refl

pub step_kind : (node : Node) (step : NodeStep) → Kind node (Brings step) (outcome node step)
step_kind node (Delivers bytes) = bytes_kind node bytes
step_kind node (Takes signed) = message_kind node signed.message signed.auth
step_kind node (TakesRequests messages) = Rested (requests_rest node messages)
step_kind node (TakesOffered request) = Rested (offered_rest node request)
step_kind node (Proposes time) = Rested (proposes_rest node time)
step_kind node Executes = Rested (executes_rest node)
step_kind node Fails = Rested (record { keys = refl; f = refl; me = refl; view = refl; asked = refl; changes = refl; new_view = refl })
step_kind node Checkpoints = Rested (tells_rest node)
step_kind node TimesOut = leaving_kind node (Brings TimesOut) (next_view node.order)
step_kind node (LeavesFor view) = leaving_kind node (Brings (LeavesFor view)) view
step_kind node ForgetsAnswered = Rested (forgets_answered_rest node)
step_kind node ForgetsProposed = Rested (forgets_proposed_rest node)
step_kind node (Adopts certificate files table) = Rested (adopts_rest node certificate files table)
step_kind node (Settles certificate) = Rested (settles_rest node certificate)
