-- What stands in a node's log was checked by its keys, or signed by them.
use Rattle.std.proofs.Common.{◌≡◌, ℕ, ◌<◌, ◌==◌, ◌&&◌, true, List, [], ◌∷◌, ◌⊎◌, inl, inr, Option, Some, None, option_map, map, refl, sym, subst, ◌∙◌, arith}
use Rattle.std.specs.Prelude.{nat_lt}
use Rattle.std.proofs.lemmas.Bool.{and_parts, cond_both, eqb-true, ltb-true}
use Rattle.bfs_auth.specs.Keys.{Keys}
use Rattle.bfs_votes.specs.Votes.{replicas}
use Rattle.bfs_codec.specs.Reading.{message_of}
use Rattle.bfs_log.specs.Certificates.{StableCheckpoint, checkpoints_in, faults, is_shown}
use Rattle.bfs_log.specs.Headers.{header}
use Rattle.bfs_log.proofs.Public.{IsVoucher, vouched}
use Rattle.bfs_messages.specs.Messages as model
use Rattle.bfs_messages.specs.Signing.{as_message, carried_are_signed, order_is_signed}
use Rattle.bfs_messages.specs.declared.message.Message.{Message}
use Rattle.bfs_messages.specs.declared.message.Message.TheVariants.{NewView, Order, ViewChange}
use Rattle.bfs_messages.specs.declared.order_messages.OrderMessage.{OrderMessage}
use Rattle.bfs_messages.specs.declared.order_messages.OrderMessage.TheVariants.{PrePrepare}
use Rattle.bfs_messages.specs.declared.signed.Signed.{Signed}
use Rattle.bfs_model.specs.Server.Tree.{FileSystem}
use Rattle.bfs_order.specs.Laws.Calls as order
use Rattle.bfs_order.specs.Laws.Calls.{Call, CallsKeepTheReplica}
use Rattle.bfs_order.specs.Replica.Outcomes as outcomes
use Rattle.bfs_order.specs.Replica.Refusals.{is_authentic, place_refusal, refusal}
use Rattle.bfs_order.specs.Replica.States.{State}
use Rattle.bfs_order.specs.Replica.Views as views
use Rattle.bfs_order.specs.Replica.Views.{as_proposals}
use Rattle.bfs_order.specs.declared.error.OrderError.{OrderError}
use Rattle.bfs_view_change.specs.Changes.Choice.{Chosen, choice}
use Rattle.bfs_view_change.specs.Changes.Keeping.{changes_for, with_change}
use Rattle.bfs_view_change.specs.Changes.Making.{chosen_proposal, signed_proposal}
use Rattle.bfs_view_change.specs.Changes.NewViews.{do_propose, latest_checkpoint, proposes}
use Rattle.bfs_view_change.specs.Changes.ViewChanges.{messages_of}
use Rattle.bfs_node.specs.Changing.{change_in, change_refusal, leads, leaving_refusal, may_begin, new_view_in, next_view, own_change, own_new_view, view_refusal}
use Rattle.bfs_node.specs.Checkpoints.{checkpoint_refusal}
use Rattle.bfs_node.specs.Delivering.{order_in}
use Rattle.bfs_node.specs.Errors.{of_order}
use Rattle.bfs_node.specs.Executing.{is_ready}
use Rattle.bfs_node.specs.Nodes.{Node}
use Rattle.bfs_node.specs.Settling.{settling_refusal}
use Rattle.bfs_nodes_agree.specs.Orders.Replicas as ordered
use Rattle.bfs_nodes_agree.specs.Views.Replicas as turns
use Rattle.bfs_nodes_agree.specs.Views.Replicas.{ViewDeed, ordered_deed}
use Rattle.bfs_nodes_agree.specs.Nodes.Steps.{NodeStep, Delivers, Takes, Proposes, Executes, Checkpoints, TimesOut, LeavesFor, Adopts, Settles, begun_deeds, bytes_deeds, change_deeds, checkpoint_deeds, deeds_for, deeds_of, leaving_deeds, message_deeds, outcome, where_taken}
use Rattle.bfs_nodes_agree.proofs.Public.{AllIn, Brings, IsBounded, Shows, after_deeds, at_in, called, is_taken, log_keeps, more_in, none_in, passed, step_leads, votes_own}
use Rattle.bfs_passing.proofs.Said.{IsBy, IsSignedBy, votes_signed}

-- it passes by these keys, or is the replica's own, signed by them
pub record IsHeld (f me : ℕ) (keys : Keys) (m : Signed OrderMessage) : Type 0 where
  pub sender : (header m).sender < replicas f
  pub signed : (order_is_signed keys m ≡ true) ⊎ (((header m).sender ≡ me) × IsSignedBy keys m)
  pub commit : (header m).tag ≡ 4 → (header m).sender ≡ me → IsSignedBy keys m

-- What comes ----------------------------------------------------------------------------------------------------------

-- no COMMIT of its own comes back
abbrev pub NoneComesBack : Node → List ViewDeed → Type 0
NoneComesBack node deeds = (m : Signed OrderMessage) → deeds ≡ turns.Orders (order.Takes node.keys m) ∷ [] → refusal node.keys node.order m ≡ None → (header m).tag ≡ 4 → (header m).sender ≡ node.order.me → ⊥

taken_held : (me : ℕ) (keys : Keys) (s : State) (m : Signed OrderMessage) → ((header m).tag ≡ 4 → (header m).sender ≡ me → ⊥) → refusal keys s m ≡ None → IsHeld s.f me keys m
taken_held me keys s m foreign none =
    let a = passed (is_authentic keys s m) _ (place_refusal s (header m)) none in
    let b = and_parts (nat_lt (header m).sender (replicas s.f)) (order_is_signed keys m && carried_are_signed keys m.message) a.0 in
    record {
      sender = ltb-true (header m).sender (replicas s.f) b.0;
      signed = inl (and_parts (order_is_signed keys m) (carried_are_signed keys m.message) b.1).0;
      commit = λ four mine. absurd (foreign four mine);
    }

shown_held : (f me : ℕ) (keys : Keys) (c : StableCheckpoint) → is_shown keys f c ≡ true → AllIn (IsHeld f me keys) (checkpoints_in c)
shown_held f me keys c is m i =
    let v = at_in (IsVoucher keys f c.number c.digest) (checkpoints_in c) (vouched keys f c is).each m i in
    let five = v.tag in
    record { sender = v.sender; signed = inl v.signed; commit = λ four mine. absurd (omega (arith, four, five)) }

shows_held : (me : ℕ) (keys : Keys) (s : State) (stable : Option StableCheckpoint) → Shows (IsHeld s.f me keys) s keys stable
shows_held me keys s None = tt
shows_held me keys s (Some c) = λ is. shown_held s.f me keys c is

-- of the sender of a NEW-VIEW that is taken
proposals_held : (f me : ℕ) (keys : Keys) (sender view : ℕ) → sender < replicas f → (ps : List (Signed model.PrePrepare)) (cs : List Chosen) → do_propose keys sender view ps cs ≡ true
    → AllIn (IsHeld f me keys) (as_proposals ps)
proposals_held f me keys sender view low [] cs e = none_in (IsHeld f me keys)
proposals_held f me keys sender view low (p ∷ ps) [] e = absurd cc
proposals_held f me keys sender view low (p ∷ ps) (c ∷ cs) e =
    let a = and_parts (proposes keys sender view p c) (do_propose keys sender view ps cs) e in
    let vote = p.message.vote in
    let b = and_parts ((vote.sender == sender) && ((vote.view == view) && (vote.number == c.number))) _ a.0 in
    let by = eqb-true vote.sender sender (and_parts (vote.sender == sender) _ b.0).0 in
    more_in (IsHeld f me keys) (as_message PrePrepare p) (as_proposals ps) (record { sender = omega (arith, by, low); signed = inl (and_parts _ (order_is_signed keys (as_message PrePrepare p)) b.1).1; commit = λ four mine. absurd (omega (arith, four)) })
    (proposals_held f me keys sender view low ps cs a.1)

-- of its own
own_held : (f me : ℕ) (keys : Keys) (view : ℕ) → me < replicas f → (cs : List Chosen) → AllIn (IsHeld f me keys) (as_proposals (map (λ c. signed_proposal keys (chosen_proposal me view c)) cs))
own_held f me keys view low [] = none_in (IsHeld f me keys)
own_held f me keys view low (c ∷ cs) =
    more_in (IsHeld f me keys) (as_message PrePrepare (signed_proposal keys (chosen_proposal me view c))) (as_proposals (map (λ c. signed_proposal keys (chosen_proposal me view c)) cs))
    (record { sender = low; signed = inr (refl, refl); commit = λ four mine. refl }) (own_held f me keys view low cs)

-- Deeds ---------------------------------------------------------------------------------------------------------------

module _ (f me : ℕ) (keys : Keys) where
  abbrev Held : Signed OrderMessage → Type 0
  Held = IsHeld f me keys

  -- they are made with these keys, and what they bring is held
  abbrev Fine : State → List ViewDeed → Type 0
  Fine s [] = Unit {0}
  Fine s (deed ∷ deeds) = IsBy keys (called s deed) × Brings Held s (called s deed) × Fine (order.outcome s (called s deed)).now deeds

  held_votes : (s : State) (call : Call) → s.me ≡ me → me < replicas f → IsBy keys call → AllIn Held (ordered.votes_by s call)
  held_votes s call mine low by m i =
      let sender = (votes_own s call m i).sender ∙ mine in
      let signed = votes_signed keys s call by m i in
      record { sender = omega (arith, sender, low); signed = inr (sender, signed); commit = λ four its. signed }

  by_deeds : CallsKeepTheReplica → me < replicas f → (deeds : List ViewDeed) (o : ordered.OrderReplica) → o.state.me ≡ me → AllIn Held o.state.log → Fine o.state deeds → AllIn Held (after_deeds o deeds).state.log
  by_deeds same low [] o mine held fine = held
  by_deeds same low (deed ∷ deeds) o mine held fine =
      let call = called o.state deed in
      by_deeds same low deeds (ordered.after_order_deed o (ordered_deed o.state deed)) ((same o.state call).1 ∙ mine)
      (log_keeps Held o.state call held fine.1 (held_votes o.state call mine low fine.0)) fine.2

-- a view begins
fine_begun : (node : Node) → node.order.me < replicas node.order.f → Fine node.order.f node.order.me node.keys node.order (begun_deeds node)
fine_begun node low =
    let asked = node.order.asked in
    let changes = changes_for asked node.changes in
    cond_both (may_begin node) (turns.ChangesView node.keys asked changes (own_new_view node).proposals ∷ []) [] (Fine node.order.f node.order.me node.keys node.order)
    (λ _. (
      refl,
      (own_held node.order.f node.order.me node.keys asked low (choice (messages_of changes)).chosen, shows_held node.order.me node.keys node.order (latest_checkpoint (messages_of changes))),
      tt,
    ))
    (λ _. tt)

fine_change : (node : Node) (s : Signed model.ViewChange) → node.order.me < replicas node.order.f → Fine node.order.f node.order.me node.keys node.order (change_deeds node s)
fine_change node s low = cond_both (leads node s.message.view) (begun_deeds (record node { changes = with_change node.changes s })) [] (Fine node.order.f node.order.me node.keys node.order)
    (λ _. fine_begun (record node { changes = with_change node.changes s }) low) (λ _. tt)

fine_view : (node : Node) (s : Signed model.NewView) → faults node.keys ≡ node.order.f → view_refusal node s ≡ None
    → Fine node.order.f node.order.me node.keys node.order (turns.ChangesView node.keys s.message.view s.message.changes s.message.proposals ∷ [])
fine_view node s fit none =
    let is = is_taken node s fit none in
    let led = is.led in (
      refl,
      (
        proposals_held node.order.f node.order.me node.keys s.message.sender s.message.view (omega (arith, led)) s.message.proposals (choice (messages_of s.message.changes)).chosen is.proposed,
        shows_held node.order.me node.keys node.order (latest_checkpoint (messages_of s.message.changes)),
      ),
      tt,
    )

fine_message : (node : Node) (m : Message) (signed : Signed Message) → faults node.keys ≡ node.order.f → node.order.me < replicas node.order.f → NoneComesBack node (message_deeds node signed m)
    → Fine node.order.f node.order.me node.keys node.order (message_deeds node signed m)
fine_message node (Order message) signed fit low back = (
  refl,
  (λ none. taken_held node.order.me node.keys node.order (order_in signed message) (back (order_in signed message) refl none) none),
  tt,
)
fine_message node (ViewChange change) signed fit low back =
    elim (change_refusal node (change_in signed change)) as (λ r. Fine node.order.f node.order.me node.keys node.order (where_taken r (change_deeds node (change_in signed change)))) [
      | None ↦ fine_change node (change_in signed change) low
      | Some refused ↦ tt
    ]
fine_message node (NewView new) signed fit low back =
    (elim (view_refusal node (new_view_in signed new)) as (λ r. view_refusal node (new_view_in signed new) ≡ r
    → Fine node.order.f node.order.me node.keys node.order (where_taken r (turns.ChangesView node.keys new.view new.changes new.proposals ∷ []))) [
      | None ↦ λ none. fine_view node (new_view_in signed new) fit none
      | Some refused ↦ λ _. tt
    ]) refl
fine_message node other signed fit low back = tt

fine_bytes : (node : Node) (o : Option (Signed Message)) → faults node.keys ≡ node.order.f → node.order.me < replicas node.order.f → NoneComesBack node (bytes_deeds node o)
    → Fine node.order.f node.order.me node.keys node.order (bytes_deeds node o)
fine_bytes node None fit low back = tt
fine_bytes node (Some signed) fit low back = fine_message node signed.message signed fit low back

pub none_of : (r : Option OrderError) → option_map of_order r ≡ None → r ≡ None
none_of None e = refl
none_of (Some refused) e = absurd cc

fine_leaving : (node : Node) (view : ℕ) → node.order.me < replicas node.order.f → Fine node.order.f node.order.me node.keys node.order (deeds_for node view)
fine_leaving node view low =
    let s = node.order in
    let gone = record node { order = (views.left s view).now } in
    let rest = change_deeds gone (own_change node view) in
    (elim (leaving_refusal node view) as (λ r. leaving_refusal node view ≡ r → Fine s.f s.me node.keys s (where_taken r (leaving_deeds node view))) [
      | None ↦ λ none. (
        tt,
        tt,
        subst (λ (r : Option OrderError). Fine s.f s.me node.keys (outcomes.unless r s (views.left s view)).now rest) (sym (none_of (views.leaving_refusal s view) none)) (fine_change gone (own_change node view) low),
      )
      | Some refused ↦ λ _. tt
    ]) refl

fine_checkpoint : (node : Node) (files : Option FileSystem) → node.order.me < replicas node.order.f → Fine node.order.f node.order.me node.keys node.order (checkpoint_deeds node files)
fine_checkpoint node None low = tt
fine_checkpoint node (Some files) low = (refl, record { sender = low; signed = inr (refl, refl); commit = λ four mine. refl }, tt)

fine_step : (node : Node) (step : NodeStep) → faults node.keys ≡ node.order.f → node.order.me < replicas node.order.f → NoneComesBack node (deeds_of node step)
    → Fine node.order.f node.order.me node.keys node.order (deeds_of node step)
fine_step node (Delivers bytes) fit low back = fine_bytes node (message_of bytes) fit low back
fine_step node (Takes signed) fit low back = fine_message node signed.message signed fit low back
fine_step node (Proposes time) fit low back = (refl, tt, tt)
fine_step node Executes fit low back = cond_both (is_ready node) (turns.Orders order.Executes ∷ []) [] (Fine node.order.f node.order.me node.keys node.order) (λ _. (tt, tt, tt)) (λ _. tt)
fine_step node Checkpoints fit low back =
    elim (checkpoint_refusal node) as (λ r. Fine node.order.f node.order.me node.keys node.order (where_taken r (checkpoint_deeds node node.files))) [ None ↦ fine_checkpoint node node.files low | Some refused ↦ tt ]
fine_step node TimesOut fit low back = fine_leaving node (next_view node.order) low
fine_step node (LeavesFor view) fit low back = fine_leaving node view low
fine_step node (Adopts certificate files table) fit low back =
    cond_both _ (turns.Orders (order.Installs node.keys certificate) ∷ []) [] (Fine node.order.f node.order.me node.keys node.order)
    (λ _. (refl, shown_held node.order.f node.order.me node.keys certificate, tt)) (λ _. tt)
fine_step node (Settles certificate) fit low back =
    elim (settling_refusal node certificate) as (λ r. Fine node.order.f node.order.me node.keys node.order (where_taken r (turns.Orders (order.Installs node.keys certificate) ∷ []))) [
      | None ↦ (refl, shown_held node.order.f node.order.me node.keys certificate, tt)
      | Some refused ↦ tt
    ]
fine_step node step fit low back = tt

-- A step --------------------------------------------------------------------------------------------------------------

-- all that stands in its log is held
abbrev pub HoldsLog : Node → Type 0
HoldsLog node = AllIn (IsHeld node.order.f node.order.me node.keys) node.order.log

pub holds_on : CallsKeepTheReplica → (node : Node) (step : NodeStep) → faults node.keys ≡ node.order.f → node.order.me < replicas node.order.f → IsBounded node.order → NoneComesBack node (deeds_of node step) → HoldsLog node
    → AllIn (IsHeld node.order.f node.order.me node.keys) (outcome node step).now.order.log
holds_on same node step fit low bounded back held =
    let o : ordered.OrderReplica = record { state = node.order; sent = []; offers = []; changes = []; executed = [] } in
    let there = by_deeds node.order.f node.order.me node.keys same low (deeds_of node step) o refl held (fine_step node step fit low back) in
    subst (λ (s : State). AllIn (IsHeld node.order.f node.order.me node.keys) s.log) (step_leads node step bounded o refl).0 there
