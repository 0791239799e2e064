-- A node enters a view with all that the NEW-VIEW hands over, since each VIEW-CHANGE that it keeps is valid by its keys, or its own.
use Rattle.std.proofs.Common.{◌≡◌, ℕ, ◌≤◌, true, false, cond, List, [], ◌∷◌, ◌⊎◌, None, option_map, inl, inr, refl, sym, ap, subst, ◌∙◌, arith}
use Rattle.std.proofs.lemmas.Bool.{and_parts, eqb-true}
use Rattle.std.proofs.lemmas.List.{length-replicate}
use Rattle.bfs_auth.specs.Keys.{Keys}
use Rattle.bfs_codec.specs.Laws.{MessageWasWritten}
use Rattle.bfs_log.specs.Certificates.{faults}
use Rattle.bfs_messages.specs.Fits.{FitsMessage}
use Rattle.bfs_messages.specs.Messages as model
use Rattle.bfs_messages.specs.Signing.{as_message}
use Rattle.bfs_messages.specs.declared.signed.Signed.{Signed}
use Rattle.bfs_messages.specs.declared.message.Message.TheVariants.{ViewChange, NewView}
use Rattle.bfs_votes.specs.Votes.{primary, replicas}
use Rattle.bfs_order.specs.Laws.Calls as order
use Rattle.bfs_order.specs.Laws.Logs.{HasNoLaterView}
use Rattle.bfs_order.specs.Replica.States.{State}
use Rattle.bfs_order.specs.Replica.Views as views
use Rattle.bfs_agreement.specs.Histories.{IsIn}
use Rattle.bfs_nodes_agree.specs.Orders.Replicas as ordered
use Rattle.bfs_nodes_agree.proofs.Orders.Lists.{AllIn, left_in, right_in}
use Rattle.bfs_nodes_agree.proofs.Orders.Rising.{entered_same, low_rises}
use Rattle.bfs_view_change.specs.Changes.Choice.{choice}
use Rattle.bfs_view_change.specs.Changes.Keeping.{Kept, changes_for, with_asked, with_change}
use Rattle.bfs_view_change.specs.Changes.Making.{signed_new_view}
use Rattle.bfs_view_change.specs.Changes.NewViews.{latest_checkpoint, new_view_refusal}
use Rattle.bfs_view_change.specs.Changes.ViewChanges.{messages_of, valid_view_change}
use Rattle.bfs_view_change.proofs.Public.{made_near}
use Rattle.bfs_node.specs.Changing.{begun, begun_if_due, entering_refusal, leads, leaving_refusal, left_for, may_begin, own_change, own_new_view, view_refusal, with_new_view, with_view_change}
use Rattle.bfs_node.specs.Errors.{of_view}
use Rattle.bfs_node.specs.Nodes.{Messages, Node, Outcome}
use Rattle.bfs_nodes_agree.specs.Nodes.Laws.{HasEnteredWhole, NewViewsAreTakenWhole, ViewsAreEnteredWhole, WhatIsKeptIsValid}
use Rattle.bfs_nodes_agree.specs.Nodes.Premises.{AreShared, Comes, IsAny}
use Rattle.bfs_nodes_agree.specs.Nodes.Replicas.{Beginning, Keyring, NodeReplica, NodeReplicas, NodeTurn, after_node_step, after_node_turn, after_node_turns, new_node_replicas}
use Rattle.bfs_nodes_agree.specs.Nodes.Steps.{NodeStep, deeds_of, outcome, still}
use Rattle.bfs_nodes_agree.specs.Views.Laws.{EntersWhole, IsSound, NothingIsPassedOver}
use Rattle.bfs_nodes_agree.proofs.Nodes.Bounds.{IsBounded, kept, left_bounded}
use Rattle.bfs_nodes_agree.proofs.Nodes.Doing.{stays_kept}
use Rattle.bfs_nodes_agree.proofs.Nodes.Entered.{comes_so}
use Rattle.bfs_nodes_agree.proofs.Nodes.Kinds.{Left, Rested, TookChange, TookNewView, step_kind}
use Rattle.bfs_nodes_agree.proofs.Nodes.Keeping.{AreKept, good_for, good_on, kept_above, kept_with, none_kept}
use Rattle.bfs_nodes_agree.proofs.Nodes.NewViews.{is_taken, own_proposals, proposals_are}
use Rattle.bfs_nodes_agree.proofs.Nodes.Resting.{Rests, itself}
use Rattle.bfs_nodes_agree.proofs.Nodes.Right.{change_valid}
use Rattle.bfs_nodes_agree.proofs.Nodes.States.{both_at}
use Rattle.bfs_nodes_agree.proofs.Nodes.Steps.{begins_open, not_refused, not_second, step_leads}
use Rattle.bfs_nodes_agree.proofs.Views.Lists.{passes_at}
use Rattle.bfs_nodes_agree.proofs.Views.Proved.{enough_senders}

abbrev Change : Type 0
Change = Signed model.ViewChange

-- A view is entered -----------------------------------------------------------------------------------------------------------

pub taken_whole : NothingIsPassedOver → NewViewsAreTakenWhole
taken_whole whole node s fit later fits taken =
    let new = s.message in
    let is = is_taken node s fit taken in
    let opened = not_refused _ (not_second (option_map of_view (new_view_refusal node.keys s)) (entering_refusal node new) taken) in
    let valid = (enough_senders node.keys node.order.f new.changes fit is.right).1 in
    whole node.keys node.order new.view new.changes new.proposals fit later opened (λ c i. inl (passes_at (valid_view_change node.keys) new.changes c valid i))
    (proposals_are node.keys node.order.f new.sender new.view is.led new.proposals (choice (messages_of new.changes)).chosen fits.proposals.1 is.proposed)

begun_whole : NothingIsPassedOver → (node : Node) → faults node.keys ≡ node.order.f → HasNoLaterView node.order → IsBounded node.order → may_begin node ≡ true
    → AllIn (IsSound node.keys node.order.low) (changes_for node.order.asked node.changes)
    → EntersWhole (views.number_of (latest_checkpoint (messages_of (changes_for node.order.asked node.changes)))) (own_new_view node).proposals (begun node).now.order
begun_whole whole node fit later bounded may sound =
    let asked = node.order.asked in
    let changes = changes_for asked node.changes in
    let led = (and_parts (leads node asked) _ (and_parts _ _ may).1).0 in
    whole node.keys node.order asked changes (own_new_view node).proposals fit later (begins_open node bounded may) sound
    (own_proposals node.keys node.order.f node.order.me asked (eqb-true node.order.me (primary node.order.f asked) led) (choice (messages_of changes)).chosen)

entered_view : (keys : Keys) (s : State) (view : ℕ) (new : model.NewView) → (views.entered keys s view (latest_checkpoint (messages_of new.changes)) new.proposals).now.view ≡ view
entered_view keys s view new = entered_same (λ (u : State). u.view) (λ u low log. refl) keys s view (latest_checkpoint (messages_of new.changes)) new.proposals

-- What a step leaves ----------------------------------------------------------------------------------------------------------

-- of its own something more is known
module _ (Said : Change → Type 0) where
  abbrev Good : Keys → (low : ℕ) → Change → Type 0
  Good keys low s = (valid_view_change keys s ≡ true) ⊎ (IsSound keys low s × Said s)

  good_sound : (keys : Keys) (low : ℕ) (s : Change) → Good keys low s → IsSound keys low s
  good_sound keys low s good = elim good [ inl valid ↦ inl valid | inr own ↦ own.0 ]

  record Stands (node : Node) : Type 0 where
    fit : faults node.keys ≡ node.order.f
    bounded : IsBounded node.order
    later : HasNoLaterView node.order
    kept : AreKept (Good node.keys node.order.low) node.order.f node.changes

  record Goes (Fits : Type 0) (node : Node) (out : Outcome) : Type 0 where
    keys : out.now.keys ≡ node.keys
    kept : AreKept (Good node.keys node.order.low) node.order.f out.now.changes
    enters : Fits → (out.now.order.view ≡ node.order.view) ⊎ HasEnteredWhole out.now

  rests_go : (Fits : Type 0) (node : Node) (out : Outcome) → Stands node → Rests node out.now → Goes Fits node out
  rests_go Fits node out stands rests = record {
    keys = rests.keys;
    kept = subst (λ (k : Kept). AreKept (Good node.keys node.order.low) node.order.f k) (sym rests.changes) stands.kept;
    enters = λ _. inl rests.view;
  }

  begun_goes : (whole : NothingIsPassedOver) (Fits : Type 0) (node : Node) → Stands node → Goes Fits node (begun_if_due node)
  begun_goes whole Fits node stands =
      let asked = node.order.asked in
      let new = own_new_view node in
      (elim (may_begin node) as (λ b. may_begin node ≡ b → Goes Fits node (cond b (begun node) (still node))) [
        | true ↦ λ may. record {
          keys = refl;
          kept = kept_above (Good node.keys node.order.low) node.order.f asked node.changes stands.kept;
          enters = λ _. inr (record {
            new = signed_new_view node.keys new;
            kept = refl;
            of_view = sym (entered_view node.keys node.order asked new);
            whole = begun_whole whole node stands.fit stands.later stands.bounded may
                (λ c i. good_sound node.keys node.order.low c (good_for (Good node.keys node.order.low) asked 0 node.changes.changes stands.kept.1 c i).1);
          });
        }
        | false ↦ λ _. rests_go Fits node (still node) stands (itself node)
      ]) refl

  change_goes : (whole : NothingIsPassedOver) (Fits : Type 0) (node : Node) → Stands node → (s : Change) → Good node.keys node.order.low s → Goes Fits node (with_view_change node s)
  change_goes whole Fits node stands s good =
      let there = record node { changes = with_change node.changes s } in
      let noted = record node { changes = with_asked node.changes s.message } in
      let kept = kept_with (Good node.keys node.order.low) node.order.f node.changes s good stands.kept in
      elim (leads node s.message.view) as (λ b. Goes Fits node (cond b (begun_if_due there) (still noted))) [
        | true ↦ let goes = begun_goes whole Fits there (record { fit = stands.fit; bounded = stands.bounded; later = stands.later; kept = kept }) in record { keys = goes.keys; kept = goes.kept; enters = goes.enters }
        | false ↦ record { keys = refl; kept = stands.kept; enters = λ _. inl refl }
      ]

  takes_new : (whole : NothingIsPassedOver) (Fits : Type 0) (node : Node) → Stands node → (s : Signed model.NewView) → view_refusal node s ≡ None → (Fits → FitsMessage (NewView s.message)) → Goes Fits node (with_new_view node s)
  takes_new whole Fits node stands s none fits = record {
    keys = refl;
    kept = kept_above (Good node.keys node.order.low) node.order.f s.message.view node.changes stands.kept;
    enters = λ so. inr (record {
      new = s;
      kept = refl;
      of_view = sym (entered_view node.keys node.order s.message.view s.message);
      whole = taken_whole whole node s stands.fit stands.later (fits so) none;
    });
  }

  leaves_goes : (whole : NothingIsPassedOver) (Fits : Type 0) (node : Node) (view : ℕ) → Stands node → leaving_refusal node view ≡ None
      → ((s : Change) → IsIn (as_message ViewChange s) (left_for node view).sent → Said s) → Goes Fits node (left_for node view)
  leaves_goes whole Fits node view stands none said =
      let gone = record node { order = (views.left node.order view).now } in
      let own = own_change node view in
      let may = not_refused (views.leaving_refusal node.order view) none in
      let there : Stands gone = record { fit = stands.fit; bounded = left_bounded node.order view may; later = stands.later; kept = stands.kept } in
      let goes = change_goes whole Fits gone there own (inr (inr (made_near node.order view, omega arith), said own (inl refl))) in
      record {
        keys = goes.keys;
        kept = goes.kept;
        enters = λ fits. elim (goes.enters fits) [
          | inl same ↦ inl same
          | inr entered ↦ inr (record { new = entered.new; kept = entered.kept; of_view = entered.of_view; whole = entered.whole })
        ];
      }

  step_goes : (whole : NothingIsPassedOver) → MessageWasWritten → (node : Node) (step : NodeStep) → Stands node
      → ((s : Change) → IsIn (as_message ViewChange s) (outcome node step).sent → Said s) → Goes (Comes IsAny step) node (outcome node step)
  step_goes whole written node step stands says = elim (step_kind node step) [
    | Rested rests ↦ rests_go Fits node (outcome node step) stands rests
    | TookChange c ↦ subst (Goes Fits node) (sym c.is) (change_goes whole Fits node stands c.change (inl (change_valid node c.change c.taken)))
    | TookNewView c ↦ subst (Goes Fits node) (sym c.is) (takes_new whole Fits node stands c.new c.taken (λ comes. (comes_so written IsAny step (as_message NewView c.new) comes c.came).0))
    | Left l ↦ subst (λ (o : Outcome). ((s : Change) → IsIn (as_message ViewChange s) o.sent → Said s) → Goes Fits node o) (sym l.is) (leaves_goes whole Fits node l.view stands l.taken) says
  ]
    where
      Fits : Type 0
      Fits = Comes IsAny step

-- All steps -------------------------------------------------------------------------------------------------------------------

-- what holds of its order after each call holds after each step
order_keeps : (P : State → Type 0) → ((s : State) (call : order.Call) → P s → P (order.outcome s call).now) → (node : Node) (step : NodeStep) → IsBounded node.order → P node.order → P (outcome node step).now.order
order_keeps P kept node step bounded is =
    let o : ordered.OrderReplica = record { state = node.order; sent = []; offers = []; changes = []; executed = [] } in
    subst P (step_leads node step bounded o refl).0 (stays_kept P kept (deeds_of node step) o is)

abbrev Told : Messages → Change → Type 0
Told sent s = IsIn (as_message ViewChange s) sent

record Knows (keys : Keys) (r : NodeReplica) : Type 0 where
  same : r.node.keys ≡ keys
  stands : Stands (Told r.sent) r.node

-- of what is sent later more was said, and the low mark doesn't fall
good_later : (keys : Keys) (before after : Messages) (low high : ℕ) → ((s : Change) → Told before s → Told after s) → low ≤ high → (s : Change) → Good (Told before) keys low s → Good (Told after) keys high s
good_later keys before after low high later le s good = elim good [
  | inl valid ↦ inl valid
  | inr own ↦ inr (elim own.0 [ inl valid ↦ inl valid | inr near ↦ let under = near.1 in inr (near.0, omega (arith, under, le)) ], later s own.1)
]

module _ (whole : NothingIsPassedOver) (same : order.CallsKeepTheReplica) (views : order.IsKept HasNoLaterView) (written : MessageWasWritten) where
  -- what is known where it has sent what it sends now
  stands_now : (r : NodeReplica) (step : NodeStep) → Stands (Told r.sent) r.node → Stands (Told (after_node_step r step).sent) r.node
  stands_now r step stands = record {
    fit = stands.fit;
    bounded = stands.bounded;
    later = stands.later;
    kept = (
      stands.kept.0,
      good_on (Good (Told r.sent) r.node.keys r.node.order.low) (Good (Told (after_node_step r step).sent) r.node.keys r.node.order.low)
          (good_later r.node.keys r.sent (after_node_step r step).sent r.node.order.low r.node.order.low (λ s i. right_in (outcome r.node step).sent r.sent (as_message ViewChange s) i) (omega arith)) 0 r.node.changes.changes stands.kept.1,
    );
  }

  goes_now : (r : NodeReplica) (step : NodeStep) → Stands (Told r.sent) r.node → Goes (Told (after_node_step r step).sent) (Comes IsAny step) r.node (outcome r.node step)
  goes_now r step stands =
      step_goes (Told (after_node_step r step).sent) whole written r.node step (stands_now r step stands) (λ s i. left_in (outcome r.node step).sent r.sent (as_message ViewChange s) i)

  knows_on : (keys : Keys) (r : NodeReplica) (step : NodeStep) → Knows keys r → Knows keys (after_node_step r step)
  knows_on keys r step knows =
      let node = r.node in
      let now = (outcome node step).now in
      let stands = knows.stands in
      let goes = goes_now r step stands in
      let sent = (after_node_step r step).sent in
      let f_is : now.order.f ≡ node.order.f = order_keeps (λ (s : State). s.f ≡ node.order.f) (λ s call is. (same s call).0 ∙ is) node step stands.bounded refl in
      let rises : node.order.low ≤ now.order.low =
      order_keeps (λ (s : State). node.order.low ≤ s.low) (λ s call is. let up = low_rises s call in omega (arith, up, is)) node step stands.bounded (omega arith) in
      record {
        same = goes.keys ∙ knows.same;
        stands = record {
          fit = ap faults goes.keys ∙ stands.fit ∙ sym f_is;
          bounded = order_keeps IsBounded kept node step stands.bounded stands.bounded;
          later = order_keeps HasNoLaterView views.1 node step stands.bounded stands.later;
          kept = subst (λ (k : Keys). AreKept (Good (Told sent) k now.order.low) now.order.f now.changes) (sym goes.keys) (
            goes.kept.0 ∙ ap replicas (sym f_is),
            good_on (Good (Told sent) node.keys node.order.low) (Good (Told sent) node.keys now.order.low) (good_later node.keys sent sent node.order.low now.order.low (λ s i. i) rises) 0 now.changes.changes goes.kept.1,
          );
        };
      }

  know_all : (keys : Keyring) (steps : List NodeTurn) (w : NodeReplicas) → ((i : ℕ) → Knows (keys i) (w i)) → (i : ℕ) → Knows (keys i) (after_node_turns w steps i)
  know_all keys [] w all = all
  know_all keys (turn ∷ steps) w all = know_all keys steps (after_node_turn w turn) (both_at w turn (λ i r. Knows (keys i) r) (knows_on (keys turn.who) (w turn.who) turn.step (all turn.who)) all)

  known : (f : ℕ) (keys : Keyring) (start : Beginning) (steps : List NodeTurn) → AreShared f keys → (i : ℕ) → Knows (keys i) (after_node_turns (new_node_replicas f keys start) steps i)
  known f keys start steps shared = know_all keys steps (new_node_replicas f keys start) (λ i. record {
    same = refl;
    stands = record {
      fit = omega (arith, shared i);
      bounded = refl;
      later = views.0 f i;
      kept = (length-replicate (replicas f) None, none_kept (Good (Told []) (keys i) 0) 0 (replicas f));
    };
  })

  pub entered_whole : ViewsAreEnteredWhole
  entered_whole f keys start steps i step shared comes = let r = after_node_turns (new_node_replicas f keys start) steps i in (goes_now r step (known f keys start steps shared i).stands).enters comes

  pub kept_valid : WhatIsKeptIsValid
  kept_valid f keys start steps i view s shared j =
      let r = after_node_turns (new_node_replicas f keys start) steps i in
      let knows = known f keys start steps shared i in
      let good = (good_for (Good (Told r.sent) r.node.keys r.node.order.low) view 0 r.node.changes.changes knows.stands.kept.1 s j).1 in
      elim good [ inl valid ↦ inl (subst (λ (k : Keys). valid_view_change k s ≡ true) knows.same valid) | inr own ↦ inr own.1 ]
