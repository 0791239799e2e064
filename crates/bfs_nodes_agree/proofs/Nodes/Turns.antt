-- Whatever nodes do is what turns of their orders do, and these turns may be taken.
use Rattle.std.proofs.Common.{◌≡◌, ℕ, ◌==◌, Bool, List, [], ◌∷◌, ◌++◌, None, map, inl, inr, refl, sym, ap, subst, ◌∙◌, arith}
use Rattle.std.proofs.lemmas.Bool.{cond_both, eqb-true}
use Rattle.std.proofs.lemmas.List.{length-replicate}
use Rattle.bfs_auth.specs.Keys.{Keys}
use Rattle.bfs_auth.specs.declared.principals.Principal.TheVariants as principal
use Rattle.bfs_votes.specs.Votes.{Told, replicas}
use Rattle.bfs_log.specs.Certificates.{faults}
use Rattle.bfs_log.specs.Headers.{header}
use Rattle.bfs_log.specs.Logs.{Log, headers}
use Rattle.bfs_codec.specs.Laws.{MessageWasWritten, OneBatch}
use Rattle.bfs_messages.specs.Signing.{as_message}
use Rattle.bfs_messages.specs.declared.signed.Signed.{Signed}
use Rattle.bfs_messages.specs.declared.message.Message.{Message}
use Rattle.bfs_messages.specs.declared.message.Message.TheVariants.{Order}
use Rattle.bfs_messages.specs.declared.order_messages.OrderMessage.{OrderMessage}
use Rattle.bfs_order.specs.Laws.Calls.{CallsKeepTheReplica, IsKept}
use Rattle.bfs_order.specs.Laws.Logs.{HasNoLaterView}
use Rattle.bfs_order.specs.Replica.States.{State}
use Rattle.bfs_agreement.specs.Histories.{IsIn, World}
use Rattle.bfs_agreement.proofs.Public.{in_told}
use Rattle.bfs_nodes_agree.specs.Orders.Replicas as ordered
use Rattle.bfs_nodes_agree.specs.Orders.Replicas.{histories}
use Rattle.bfs_nodes_agree.proofs.Orders.Lists.{AllIn, both_in, left_in, none_in, right_in}
use Rattle.bfs_nodes_agree.proofs.Orders.Logs.{IsChecked, IsOwn}
use Rattle.bfs_nodes_agree.specs.Views.Replicas as turns
use Rattle.bfs_nodes_agree.specs.Views.Replicas.{ViewTurn, ordered_turn}
use Rattle.bfs_nodes_agree.proofs.Views.Lists.{in_map}
use Rattle.bfs_nodes_agree.specs.Nodes.Laws.{Tracks, StepsAreTurns}
use Rattle.bfs_nodes_agree.specs.Nodes.Premises.{AreAuthentic, AreShared, Comes, IsAuthentic}
use Rattle.bfs_nodes_agree.specs.Nodes.Replicas.{Beginning, Keyring, NodeReplica, NodeReplicas, NodeTurn, after_node_step, after_node_turn, after_node_turns, new_node_replicas, turn_of, ordered_turns}
use Rattle.bfs_nodes_agree.specs.Nodes.Steps.{NodeStep, deeds_of, executed_by, outcome}
use Rattle.bfs_nodes_agree.proofs.Nodes.Bounds.{IsBounded, kept}
use Rattle.bfs_nodes_agree.proofs.Nodes.Doing.{ArePassed, BringAll, Done, OfferAll, RepliesBy, Stands, StandsBy, at_who, deeds_keep, deeds_offer, elsewhere, extends_deeds, own_said, stays_kept}
use Rattle.bfs_nodes_agree.proofs.Nodes.Hearing.{AreGrown, GoesOut, HaveGrown, IsGood, IsHeard, IsSpoken, IsWhollySaid, change_on, goes_as, grown, heard_on, said_later, spoken_on}
use Rattle.bfs_nodes_agree.proofs.Nodes.Keeping.{AreKept, good_on, none_kept}
use Rattle.bfs_nodes_agree.proofs.Nodes.Right.{step_done}
use Rattle.bfs_nodes_agree.proofs.Nodes.States.{both_at, here_after}
use Rattle.bfs_nodes_agree.proofs.Nodes.Steps.{after_deeds, step_leads}

-- Steps are turns ---------------------------------------------------------------------------------------------------------------

in_two : (one other : List ViewTurn) (w : ordered.OrderReplicas) → turns.after_view_turns w (one ++ other) ≡ turns.after_view_turns (turns.after_view_turns w one) other
in_two [] other w = refl
in_two (turn ∷ one) other w = in_two one other (ordered.after_order_turn w (ordered_turn w turn))

record Goes (r : NodeReplica) (o : ordered.OrderReplica) : Type 0 where
  tracks : Tracks r o
  bounded : IsBounded o.state

goes_here : (r : NodeReplica) (o : ordered.OrderReplica) (step : NodeStep) → Goes r o → Goes (after_node_step r step) (after_deeds o (deeds_of r.node step))
goes_here r o step before =
    let led = step_leads r.node step (subst IsBounded before.tracks.state before.bounded) o before.tracks.state in
    record {
      tracks = record { state = led.0; executed = led.1 ∙ ap (λ (l : Log). executed_by r.node step ++ l) before.tracks.executed };
      bounded = stays_kept IsBounded kept (deeds_of r.node step) o before.bounded;
    }

-- what holds after the step at the node that takes it, and at all others
pub at_each : (P : ℕ → NodeReplica → ordered.OrderReplica → Type 0) (turn : NodeTurn) (w : NodeReplicas) (v : ordered.OrderReplicas)
    → P turn.who (after_node_step (w turn.who) turn.step) (after_deeds (v turn.who) (deeds_of (w turn.who).node turn.step)) → ((i : ℕ) → P i (w i) (v i))
    → (i : ℕ) → P i (after_node_turn w turn i) (turns.after_view_turns v (map (turn_of turn.who) (deeds_of (w turn.who).node turn.step)) i)
at_each P turn w v here all i =
    let who = turn.who in
    let deeds = deeds_of (w who).node turn.step in
    let next = after_node_step (w who) turn.step in
    let list = map (turn_of who) deeds in
    cond_both (i == who) next (w i) (λ (r : NodeReplica). P i r (turns.after_view_turns v list i))
    (λ e. subst (λ (k : ℕ). P k next (turns.after_view_turns v list k)) (sym (eqb-true i who e)) (subst (λ (o : ordered.OrderReplica). P who next o) (sym (at_who deeds v who)) here))
    (λ e. subst (λ (o : ordered.OrderReplica). P i (w i) o) (sym (elsewhere deeds v who i e)) (all i))

go_on : (steps : List NodeTurn) (w : NodeReplicas) (v : ordered.OrderReplicas) → ((i : ℕ) → Goes (w i) (v i))
    → (i : ℕ) → Goes (after_node_turns w steps i) (turns.after_view_turns v (ordered_turns w steps) i)
go_on [] w v all i = all i
go_on (turn ∷ steps) w v all i =
    let first = map (turn_of turn.who) (deeds_of (w turn.who).node turn.step) in
    subst (λ (x : ordered.OrderReplicas). Goes (after_node_turns w (turn ∷ steps) i) (x i)) (sym (in_two first (ordered_turns (after_node_turn w turn) steps) v))
    (go_on steps (after_node_turn w turn) (turns.after_view_turns v first) (at_each (λ i r o. Goes r o) turn w v (goes_here (w turn.who) (v turn.who) turn.step (all turn.who)) all) i)

pub steps_are_turns : StepsAreTurns
steps_are_turns f keys start steps i =
    (go_on steps (new_node_replicas f keys start) (ordered.new_order_replicas f) (λ k. record { tracks = record { state = refl; executed = refl }; bounded = refl }) i).tracks

-- They may be taken ---------------------------------------------------------------------------------------------------------------

pub record Right (f : ℕ) (faulty : ℕ → Bool) (h : World) (w : NodeReplicas) (i : ℕ) (r : NodeReplica) (o : ordered.OrderReplica) : Type 0 where
  pub tracks : Tracks r o
  pub bounded : IsBounded o.state
  pub same_f : r.node.order.f ≡ f
  pub fit : faults r.node.keys ≡ r.node.order.f
  pub me : r.node.order.me ≡ i
  pub later : HasNoLaterView o.state
  pub log : AllIn (IsHeard faulty r.node.keys h w) r.node.order.log
  pub kept : AreKept (IsGood faulty r.node.keys r.node.order.f h w) r.node.order.f r.node.changes
  pub waiting : ArePassed r.node.keys r.node.pending
  pub spoken : AllIn (IsSpoken o) r.sent
  pub said : AllIn (IsWhollySaid faulty w) r.sent
  -- what its order has sent
  pub votes : (m : Signed OrderMessage) → IsIn m o.sent → GoesOut f m → IsIn (as_message Order m) r.sent
  pub checked : AllIn (IsChecked r.node.keys) o.sent

abbrev pub AreRight : (f : ℕ) (faulty : ℕ → Bool) → NodeReplicas → ordered.OrderReplicas → Type 0
AreRight f faulty w v = (i : ℕ) → Right f faulty (histories v) w i (w i) (v i)

pub sent_on : (w : NodeReplicas) (turn : NodeTurn) → HaveGrown w (after_node_turn w turn)
sent_on w turn k s = both_at w turn (λ i r. IsIn s (w i).sent → IsIn s r.sent) (right_in (outcome (w turn.who).node turn.step).sent (w turn.who).sent s) (λ i j. j) k

pub sent_here : (w : NodeReplicas) (turn : NodeTurn) (s : Signed Message) → IsIn s (outcome (w turn.who).node turn.step).sent → IsIn s (after_node_turn w turn turn.who).sent
sent_here w turn s i = subst (λ (r : NodeReplica). IsIn s r.sent) (sym (here_after w turn)) (left_in (outcome (w turn.who).node turn.step).sent (w turn.who).sent s i)

right_later : (f : ℕ) (faulty : ℕ → Bool) (h g : World) (w after : NodeReplicas) → AreGrown h g → HaveGrown w after → (i : ℕ) (r : NodeReplica) (o : ordered.OrderReplica) → Right f faulty h w i r o → Right f faulty g after i r o
right_later f faulty h g w after on later i r o right =
    let log : AllIn (IsHeard faulty r.node.keys g after) r.node.order.log = λ m j. heard_on faulty r.node.keys h g w after on later m (right.log m j) in
    let said : AllIn (IsWhollySaid faulty after) r.sent = λ s j p of. said_later faulty w after later p.message (right.said s j p of) in
    let good = good_on (IsGood faulty r.node.keys r.node.order.f h w) (IsGood faulty r.node.keys r.node.order.f g after) (change_on faulty r.node.keys r.node.order.f h g w after on later) 0 r.node.changes.changes right.kept.1 in
    assumption (log, said, good)

pub stands_of : (f : ℕ) (faulty : ℕ → Bool) (w : NodeReplicas) (v : ordered.OrderReplicas) → AreRight f faulty w v → (turn : NodeTurn) → Stands faulty (after_node_turn w turn) turn.who v (w turn.who).node
stands_of f faulty w v all turn =
    let h = histories v in
    let right = right_later f faulty h h w (after_node_turn w turn) (grown [] v) (sent_on w turn) turn.who (w turn.who) (v turn.who) (all turn.who) in
    assumption (right.tracks.state, subst IsBounded right.tracks.state right.bounded, subst HasNoLaterView right.tracks.state right.later)

module _ (same : CallsKeepTheReplica) (views : IsKept HasNoLaterView) (written : MessageWasWritten) (one : OneBatch) (f : ℕ) (faulty : ℕ → Bool) where
  pub step_right : (w : NodeReplicas) (v : ordered.OrderReplicas) (all : AreRight f faulty w v) (turn : NodeTurn) → Comes (IsAuthentic faulty w (w turn.who).node.keys) turn.step
      → Done faulty (after_node_turn w turn) turn.who v (w turn.who).node (stands_of f faulty w v all turn) (StandsBy (w turn.who).node turn.step) (RepliesBy (w turn.who).node turn.step)
      (deeds_of (w turn.who).node turn.step) (outcome (w turn.who).node turn.step)
  step_right w v all turn comes =
      step_done faulty (after_node_turn w turn) turn.who one w (sent_on w turn) v (λ k. (all k).spoken) (w turn.who).node (stands_of f faulty w v all turn) written turn.step comes (sent_here w turn)

  right_here : (w : NodeReplicas) (v : ordered.OrderReplicas) → AreRight f faulty w v → (turn : NodeTurn) → Comes (IsAuthentic faulty w (w turn.who).node.keys) turn.step
      → Right f faulty (histories (turns.after_view_turns v (map (turn_of turn.who) (deeds_of (w turn.who).node turn.step)))) (after_node_turn w turn) turn.who (after_node_step (w turn.who) turn.step)
      (after_deeds (v turn.who) (deeds_of (w turn.who).node turn.step))
  right_here w v all turn comes =
      let who = turn.who in
      let node = (w who).node in
      let right = all who in
      let at = right.tracks.state in
      let deeds = deeds_of node turn.step in
      let next = turns.after_view_turns v (map (turn_of who) deeds) in
      let after = after_node_turn w turn in
      let h = histories next in
      let o = after_deeds (v who) deeds in
      let out = outcome node turn.step in
      let goes = goes_here (w who) (v who) turn.step (record { tracks = right.tracks; bounded = right.bounded }) in
      let done = step_right w v all turn comes in
      let itself = stays_kept (λ (s : State). (s.f ≡ (v who).state.f) × (s.me ≡ (v who).state.me)) (λ s call so. ((same s call).0 ∙ so.0, (same s call).1 ∙ so.1)) deeds (v who) (refl, refl) in
      let is = goes.tracks.state in
      let f_is : out.now.order.f ≡ node.order.f = ap (λ (s : State). s.f) (sym is) ∙ itself.0 ∙ ap (λ (s : State). s.f) at in
      let me_is : out.now.order.me ≡ node.order.me = ap (λ (s : State). s.me) (sym is) ∙ itself.1 ∙ ap (λ (s : State). s.me) at in
      let sent = deeds_offer node.keys deeds (v who) right.checked (subst (λ (s : State). OfferAll (IsChecked node.keys) s deeds) (sym at) done.offers) in
      let heard : AllIn (IsHeard faulty node.keys h after) (v who).state.log =
      λ m i. heard_on faulty node.keys (histories v) h w after (grown (map (turn_of who) deeds) v) (sent_on w turn) m (right.log m (subst (λ (s : State). IsIn m s.log) at i)) in
      let given : (m : Signed OrderMessage) → IsIn m o.sent → GoesOut node.order.f m → IsIn (as_message Order m) (after who).sent = λ m i goes. elim (done.gives m i goes) [
        | inl j ↦ sent_on w turn who (as_message Order m) (right.votes m j (goes_as node.order.f f m right.same_f goes))
        | inr j ↦ sent_here w turn (as_message Order m) j
      ] in
      let own : (m : Signed OrderMessage) → IsIn m o.sent → IsOwn who m → IsHeard faulty node.keys h after m = λ m i is_own. record {
        sent = λ small correct. inl (subst (λ (k : ℕ). Told (h k).sent (header m).tag (header m).sender (header m).view (header m).number (header m).digest) (sym is_own.sender)
            (in_told (headers (next who).sent) (header m) (in_map header (next who).sent m (subst (λ (x : ordered.OrderReplica). IsIn m x.sent) (sym (at_who deeds v who)) i))));
        said = λ goes. own_said faulty after who (as_message Order m) (given m i (goes_as (faults node.keys) node.order.f m right.fit goes)) (ap principal.Replica is_own.sender);
        whole = is_own.whole;
        checked = sent m i;
      } in
      let log = subst (λ (s : State). AllIn (IsHeard faulty node.keys h after) s.log) is
      (deeds_keep (IsHeard faulty node.keys h after) same deeds (v who) who (ap (λ (s : State). s.me) at ∙ right.me) heard (subst (λ (s : State). BringAll (IsHeard faulty node.keys h after) s deeds) (sym at) done.brings) own) in
      record {
        tracks = goes.tracks;
        bounded = goes.bounded;
        same_f = f_is ∙ right.same_f;
        fit = ap faults done.keys ∙ right.fit ∙ sym f_is;
        me = me_is ∙ right.me;
        later = stays_kept HasNoLaterView views.1 deeds (v who) right.later;
        log = subst (λ (k : Keys). AllIn (IsHeard faulty k h after) out.now.order.log) (sym done.keys) log;
        kept = subst (λ (f : ℕ). AreKept (IsGood faulty out.now.keys f h after) f out.now.changes) (sym f_is)
            (subst (λ (k : Keys). AreKept (IsGood faulty k node.order.f h after) node.order.f out.now.changes) (sym done.keys) done.kept);
        waiting = subst (λ (k : Keys). ArePassed k out.now.pending) (sym done.keys) done.waiting;
        spoken = both_in (IsSpoken o) out.sent (w who).sent (λ s i. (done.sends s i).0) (λ s i. spoken_on (v who) o (extends_deeds deeds (v who)) s s.message (right.spoken s i));
        said = both_in (IsWhollySaid faulty after) out.sent (w who).sent (λ s i. (done.sends s i).2) (λ s i p of. said_later faulty w after (sent_on w turn) p.message (right.said s i p of));
        votes = λ m i goes. subst (λ (r : NodeReplica). IsIn (as_message Order m) r.sent) (here_after w turn) (given m i (goes_as f node.order.f m (sym right.same_f) goes));
        checked = subst (λ (k : Keys). AllIn (IsChecked k) o.sent) (sym done.keys) sent;
      }

  pub right_on : (w : NodeReplicas) (v : ordered.OrderReplicas) → AreRight f faulty w v → (turn : NodeTurn) → Comes (IsAuthentic faulty w (w turn.who).node.keys) turn.step
      → AreRight f faulty (after_node_turn w turn) (turns.after_view_turns v (map (turn_of turn.who) (deeds_of (w turn.who).node turn.step)))
  right_on w v all turn comes =
      let list = map (turn_of turn.who) (deeds_of (w turn.who).node turn.step) in
      let h = histories (turns.after_view_turns v list) in
      let after = after_node_turn w turn in
      at_each (λ i r o. Right f faulty h after i r o) turn w v (right_here w v all turn comes)
      (λ i. right_later f faulty (histories v) h w after (grown list v) (sent_on w turn) i (w i) (v i) (all i))

  may_both : (xs ys : List ViewTurn) (v : ordered.OrderReplicas) → turns.MayTakeViewTurns faulty v xs → turns.MayTakeViewTurns faulty (turns.after_view_turns v xs) ys → turns.MayTakeViewTurns faulty v (xs ++ ys)
  may_both [] ys v a b = b
  may_both (x ∷ xs) ys v a b = (a.0, may_both xs ys (ordered.after_order_turn v (ordered_turn v x)) a.1 b)

  pub may_be_taken : (steps : List NodeTurn) (w : NodeReplicas) (v : ordered.OrderReplicas) → AreRight f faulty w v → AreAuthentic faulty w steps → turns.MayTakeViewTurns faulty v (ordered_turns w steps)
  may_be_taken [] w v all comes = tt
  may_be_taken (turn ∷ steps) w v all comes =
      let list = map (turn_of turn.who) (deeds_of (w turn.who).node turn.step) in
      may_both list (ordered_turns (after_node_turn w turn) steps) v (step_right w v all turn comes.0).may
      (may_be_taken steps (after_node_turn w turn) (turns.after_view_turns v list) (right_on w v all turn comes.0) comes.1)

  -- at the beginning
  pub new_right : (keys : Keyring) (start : Beginning) → AreShared f keys → AreRight f faulty (new_node_replicas f keys start) (ordered.new_order_replicas f)
  new_right keys start shared i =
      let w = new_node_replicas f keys start in
      let h = histories (ordered.new_order_replicas f) in
      record {
        tracks = record { state = refl; executed = refl };
        bounded = refl;
        same_f = refl;
        fit = omega (arith, shared i);
        me = refl;
        later = views.0 f i;
        log = none_in (IsHeard faulty (keys i) h w);
        kept = (length-replicate (replicas f) None, none_kept (IsGood faulty (keys i) f h w) 0 (replicas f));
        waiting = λ s j. absurd j;
        spoken = none_in (IsSpoken (ordered.new_order_replicas f i));
        said = none_in (IsWhollySaid faulty w);
        votes = λ m j small. absurd j;
        checked = none_in (IsChecked (keys i));
      }
