-- What holds of each node after every list of calls and deliveries: what it keeps was checked by its keys, or signed by them.
use Rattle.std.proofs.Common.{◌≡◌, ℕ, ◌<◌, ◌==◌, ◌&&◌, Bool, false, max, List, [], ◌∷◌, inl, None, refl, sym, ap, subst, ◌∙◌, arith}
use Rattle.std.specs.Prelude.{nat_le, nat_lt}
use Rattle.std.proofs.lemmas.Bool.{and_parts, cond_both, eqb-true, ltb-true}
use Rattle.std.proofs.lemmas.List.{length-replicate}
use Rattle.bfs_auth.specs.Keys.{Keys}
use Rattle.bfs_votes.specs.Votes.{replicas}
use Rattle.bfs_model.specs.Server.Limits.{most_number}
use Rattle.bfs_log.specs.Certificates.{faults}
use Rattle.bfs_messages.specs.declared.order_messages.OrderMessage.{OrderMessage}
use Rattle.bfs_messages.specs.declared.signed.Signed.{Signed}
use Rattle.bfs_order.specs.Laws.Calls.{IsKept}
use Rattle.bfs_order.specs.Laws.Logs.{HasCertificate, HasDistinctSlots, HasNoLaterView}
use Rattle.bfs_order.specs.Replica.Views as order
use Rattle.bfs_order.specs.declared.error.OrderError.TheVariants.{WrongView}
use Rattle.bfs_agreement.specs.Histories.{IsIn, World, FewAreFaulty}
use Rattle.bfs_agreement.specs.Moves.{new_world}
use Rattle.bfs_view_change.specs.Changes.Keeping.{Kept}
use Rattle.bfs_node.specs.Changing.{leaving_refusal}
use Rattle.bfs_node.specs.Nodes.{Node, Outcome}
use Rattle.bfs_nodes_agree.specs.Orders.Replicas as ordered
use Rattle.bfs_nodes_agree.specs.Nodes.Premises.{AreAuthentic, AreShared, Comes, IsAuthentic}
use Rattle.bfs_nodes_agree.specs.Nodes.Replicas.{Beginning, Keyring, NodeReplica, NodeReplicas, NodeTurn, after_node_step, after_node_turn, after_node_turns, new_node_replicas}
use Rattle.bfs_nodes_agree.specs.Nodes.Steps.{NodeStep, deeds_of, outcome}
use Rattle.bfs_nodes_agree.proofs.Public.{AreKept, IsBounded, Left, Rested, TookChange, TookNewView, here_after, none_kept, passed, stays_kept, step_kind, step_leads}
use Rattle.bfs_nodes_progress.specs.Inside.Below.{Below}
use Rattle.bfs_nodes_progress.proofs.Public.{Facts, start_facts, step_on}
use Rattle.bfs_passing.proofs.ComingBack.{none_comes_back}
use Rattle.bfs_passing.proofs.Held.{HoldsLog, IsHeld, holds_on, none_of}
use Rattle.bfs_passing.proofs.Views.{IsRight, IsWhollyHeld, Keeps, KeepsOf, change_valid, enters, leaves, made, taken_passes, takes}

pub record Stands (node : Node) : Type 0 where
  pub log : HoldsLog node
  pub slots : HasDistinctSlots node.order
  pub certificate : HasCertificate node.order
  pub views : KeepsOf node node

-- only for a later view than the one entered
leaves_later : (node : Node) (view : ℕ) → leaving_refusal node view ≡ None → node.order.view < view
leaves_later node view none =
    let s = node.order in
    let above = nat_lt (max s.view s.asked) view in
    let free = passed (above && nat_le view most_number) WrongView None (none_of (order.leaving_refusal s view) none) in
    let lt = ltb-true (max s.view s.asked) view (and_parts above _ free.0).0 in
    omega (arith, lt)

-- what a step leaves of views
keeps_on : (node : Node) (step : NodeStep) → faults node.keys ≡ node.order.f → HasNoLaterView node.order → ((m : Signed OrderMessage) → IsIn m node.order.log → IsWhollyHeld node.order.f node.order.me node.keys m)
    → Stands node → KeepsOf node (outcome node step).now
keeps_on node step fit later held is = elim (step_kind node step) [
  | Rested rests ↦ record {
    own = λ s e. is.views.own s (ap (λ (k : Kept). k.own) (sym rests.changes) ∙ e);
    kept = subst (AreKept (IsRight node.order.f node.order.me node.keys) node.order.f) (sym rests.changes) is.views.kept;
    entered = λ s e. is.views.entered s (sym rests.new_view ∙ e);
  }
  | TookChange c ↦ subst (λ (out : Outcome). KeepsOf node out.now) (sym c.is) (takes node c.change (inl (change_valid node c.change c.taken)) is.views)
  | TookNewView c ↦ subst (λ (out : Outcome). KeepsOf node out.now) (sym c.is) (enters node c.new (taken_passes node c.new fit c.taken) is.views)
  | Left l ↦ subst (λ (out : Outcome). KeepsOf node out.now) (sym l.is)
      (leaves node l.view (made node.keys node.order l.view fit (leaves_later node l.view l.taken) is.slots is.certificate later held) is.views)
]

module _ (laws : Below) (slots : IsKept HasDistinctSlots) (certificates : IsKept HasCertificate) (f : ℕ) (faulty : ℕ → Bool) (positive : 0 < f) (few : FewAreFaulty f faulty) where
  stands_on : (w : NodeReplicas) (v : ordered.OrderReplicas) (t : World) → Facts f faulty w v t → (turn : NodeTurn) → Comes (IsAuthentic faulty w (w turn.who).node.keys) turn.step → turn.who < replicas f
      → faulty turn.who ≡ false → Stands (w turn.who).node → Stands (outcome (w turn.who).node turn.step).now
  stands_on w v t facts turn comes low correct is =
      let who = turn.who in
      let node = (w who).node in
      let now = (outcome node turn.step).now in
      let right = facts.right who in
      let first = step_on laws f faulty positive few w v t facts turn comes in
      let there = here_after w turn in
      let next = first.facts.right who in
      let f_is : now.order.f ≡ node.order.f = ap (λ (r : NodeReplica). r.node.order.f) (sym there) ∙ next.same_f ∙ sym right.same_f in
      let me_is : now.order.me ≡ node.order.me = ap (λ (r : NodeReplica). r.node.order.me) (sym there) ∙ next.me ∙ sym right.me in
      let keys_is : now.keys ≡ node.keys = ap (λ (r : NodeReplica). r.node.keys) (sym there) ∙ first.keys who in
      let me = right.me in
      let same_f = right.same_f in
      let bounded = subst IsBounded right.tracks.state right.bounded in
      let later = subst HasNoLaterView right.tracks.state right.later in
      let o : ordered.OrderReplica = record { state = node.order; sent = []; offers = []; changes = []; executed = [] } in
      let leads = (step_leads node turn.step bounded o refl).0 in
      let low_there : node.order.me < replicas node.order.f = omega (arith, low, me, same_f) in
      let held : (m : Signed OrderMessage) → IsIn m node.order.log → IsWhollyHeld node.order.f node.order.me node.keys m = λ m i. record { held = is.log m i; carried = (right.log m i).checked } in
      let log = holds_on laws.same node turn.step right.fit low_there bounded (none_comes_back laws f faulty w v t facts turn comes correct) is.log in
      let kept = keeps_on node turn.step right.fit later held is in
      record {
        log = subst (λ (g : ℕ). (m : Signed OrderMessage) → IsIn m now.order.log → IsHeld g now.order.me now.keys m) (sym f_is)
            (subst (λ (j : ℕ). (m : Signed OrderMessage) → IsIn m now.order.log → IsHeld node.order.f j now.keys m) (sym me_is)
            (subst (λ (k : Keys). (m : Signed OrderMessage) → IsIn m now.order.log → IsHeld node.order.f node.order.me k m) (sym keys_is) log));
        slots = subst HasDistinctSlots leads (stays_kept HasDistinctSlots slots.1 (deeds_of node turn.step) o is.slots);
        certificate = subst HasCertificate leads (stays_kept HasCertificate certificates.1 (deeds_of node turn.step) o is.certificate);
        views = subst (λ (g : ℕ). Keeps g now.order.me now.keys now.changes now.new_view) (sym f_is)
            (subst (λ (j : ℕ). Keeps node.order.f j now.keys now.changes now.new_view) (sym me_is) (subst (λ (k : Keys). Keeps node.order.f node.order.me k now.changes now.new_view) (sym keys_is) kept));
      }

  stands_run : (w : NodeReplicas) (v : ordered.OrderReplicas) (t : World) → Facts f faulty w v t → (turns : List NodeTurn) → AreAuthentic faulty w turns → (k : ℕ) → k < replicas f → faulty k ≡ false
      → Stands (w k).node → Stands (after_node_turns w turns k).node
  stands_run w v t facts [] comes k low correct is = is
  stands_run w v t facts (turn ∷ turns) comes k low correct is =
      let first = step_on laws f faulty positive few w v t facts turn comes.0 in
      stands_run (after_node_turn w turn) first.orders first.world first.facts turns comes.1 k low correct
      (cond_both (k == turn.who) (after_node_step (w turn.who) turn.step) (w k) (λ (r : NodeReplica). Stands r.node)
      (λ same.
      let who = eqb-true k turn.who same in
      stands_on w v t facts turn comes.0 (subst (λ (j : ℕ). j < replicas f) who low) (subst (λ (j : ℕ). faulty j ≡ false) who correct) (subst (λ (j : ℕ). Stands (w j).node) who is)) (λ _. is))

  pub all_stands : (keys : Keyring) (start : Beginning) (turns : List NodeTurn) → AreShared f keys → AreAuthentic faulty (new_node_replicas f keys start) turns → (k : ℕ) → k < replicas f → faulty k ≡ false
      → Stands (after_node_turns (new_node_replicas f keys start) turns k).node
  all_stands keys start turns shared comes k low correct =
      stands_run (new_node_replicas f keys start) (ordered.new_order_replicas f) new_world (start_facts laws f faulty positive few keys start shared) turns comes k low correct (record {
        log = λ m i. absurd i;
        slots = slots.0 f k;
        certificate = certificates.0 f k;
        views = record { own = λ s e. absurd cc; kept = (length-replicate (replicas f) None, none_kept (IsRight f k (keys k)) 0 (replicas f)); entered = λ s e. absurd cc };
      })
