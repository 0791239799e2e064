-- What a step of a view change comes to.
use Rattle.std.proofs.Common.{◌≡◌, ◌∙◌, ℕ, true, false, cond, List, Option, Some, None, Result, Ok, Err, refl, sym, ap}
use Rattle.std.specs.Prelude.{IfErr, nat_lt}
use Rattle.std.specs.Option.{option_map}
use Rattle.bfs_auth.specs.Keys.{Keys}
use Rattle.bfs_log.specs.Certificates.{StableCheckpoint}
use Rattle.bfs_log.specs.Logs.{as_messages}
use Rattle.bfs_messages.specs.Messages as model
use Rattle.bfs_messages.specs.declared.signed.Signed.{Signed}
use Rattle.bfs_order.specs.Laws.Calls.{CallsKeepTheReplica, Enters}
use Rattle.bfs_order.specs.Replica.Installing.{certified, raises}
use Rattle.bfs_order.specs.Replica.Outcomes as order
use Rattle.bfs_order.specs.Replica.Outcomes.{unless}
use Rattle.bfs_order.specs.Replica.States.{State}
use Rattle.bfs_order.specs.Replica.Views.{all_taken_over, as_proposals, entered, entering_refusal, opened}
use Rattle.bfs_order.specs.declared.error.OrderError.{OrderError}
use Rattle.bfs_view_change.specs.Changes.Keeping.{above_view}
use Rattle.bfs_view_change.specs.Changes.Making.{signed_new_view}
use Rattle.bfs_view_change.specs.Changes.NewViews.{are_chosen, first_of, ground_refusal, latest_checkpoint, new_view_refusal}
use Rattle.bfs_view_change.specs.Changes.ViewChanges.{messages_of}
use Rattle.bfs_view_change.specs.declared.error.ViewError.{ViewError}
use Rattle.bfs_view_change.specs.declared.error.ViewError.TheVariants.{WrongChoice}
use Rattle.bfs_node.specs.Changing.{entered_by, own_new_view, settled_if}
use Rattle.bfs_node.specs.Errors.{of_view}
use Rattle.bfs_node.specs.Inside.Asking.{asking}
use Rattle.bfs_node.specs.Nodes.{Node, Outcome}

-- as many replicas may be faulty in a view that is entered
pub same_faults : CallsKeepTheReplica → (keys : Keys) (s now : State) (view : ℕ) (stable : Option StableCheckpoint) (handed : List (Signed model.PrePrepare)) → entering_refusal s view ≡ None
    → now ≡ (entered keys s view stable handed).now → now.f ≡ s.f
same_faults stay keys s now view stable handed taken is =
    ap (λ (t : State). t.f) is ∙ ap (λ (r : Option OrderError). (unless r s (entered keys s view stable handed)).now.f) (sym taken) ∙ (stay s (Enters keys view stable handed)).0

-- which view it has asked for is forgotten
asked_again : (keys : Keys) (s : State) (view : ℕ) (stable : Option StableCheckpoint) (handed : List (Signed model.PrePrepare))
    → entered keys (record s { asked = view }) view stable handed ≡ entered keys s view stable handed
asked_again keys s view None handed = refl
asked_again keys s view (Some c) handed =
    let asked : State = record s { asked = view } in
    elim (raises keys s c) as
    (λ b. all_taken_over keys (opened (cond b (record asked { low = c.number; log = certified s.log c }) asked) view c.number handed) (as_proposals handed)
    ≡ all_taken_over keys (opened (cond b (record s { low = c.number; log = certified s.log c }) s) view c.number handed) (as_proposals handed)) [
      | true ↦ refl
      | false ↦ refl
    ]

pub entered_asking : (node : Node) (s : Signed model.NewView) → entered_by (asking node s.message.view) s ≡ entered_by node s
entered_asking node s =
    let new = s.message in
    let stable = latest_checkpoint (messages_of new.changes) in
    ap (λ (done : order.Outcome). let out : Outcome = record {
      now = record node { order = done.now; changes = above_view new.view node.changes; snapshots = settled_if (nat_lt node.order.low done.now.low) stable node.snapshots; new_view = Some s };
      sent = as_messages done.sent;
    } in out) (asked_again node.keys node.order new.view stable new.proposals)

-- the primary enters by its own
pub entered_own : (node : Node) (view : ℕ) (s : Signed model.NewView) → s ≡ signed_new_view node.keys (own_new_view (asking node view))
    → entered_by node s ≡ entered_by (asking node view) (signed_new_view node.keys (own_new_view (asking node view)))
entered_own node view s is = ap (entered_by node) is ∙ sym (entered_asking node (signed_new_view node.keys (own_new_view (asking node view))))

-- a NEW-VIEW that is not refused has no fault in what it is founded on
pub ground_none : (keys : Keys) (s : Signed model.NewView) → new_view_refusal keys s ≡ None → option_map of_view (ground_refusal keys s) ≡ None
ground_none keys s none = go (ground_refusal keys s) none
  where
    go : (r : Option ViewError) → first_of r (cond (are_chosen keys s.message) None (Some WrongChoice)) ≡ None → option_map of_view r ≡ None
    go None e = refl
    go (Some refused) e = absurd cc

-- Results -----------------------------------------------------------------------------------------------------------------

pub if_err : {A E : Type 0} (r : Result A E) (P : E → Type 0) (Q : Type 0) → Q → IfErr r (λ e. P e → Q)
if_err (Ok x) P Q q = tt
if_err (Err e) P Q q = λ _. q
