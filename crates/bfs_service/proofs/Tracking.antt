-- What one node has sent by its steps, beside those of others.
use Rattle.std.proofs.Common.{◌≡◌, ◌∙◌, ℕ, Bool, true, false, ◌==◌, List, [], ◌∷◌, ◌++◌, map, inl, inr, refl, sym, ap, subst, if◌then◌else◌, eqb-true}
use Rattle.std.specs.Prelude.{◌⊎◌}
use Rattle.bfs_agreement.specs.Histories.{IsIn}
use Rattle.bfs_messages.specs.declared.message.Message.{Message}
use Rattle.bfs_messages.specs.declared.signed.Signed.{Signed}
use Rattle.bfs_node.specs.Nodes.{Node}
use Rattle.bfs_nodes_agree.proofs.Public.{either_in, here_after, left_in, right_in}
use Rattle.bfs_nodes_agree.specs.Nodes.Replicas.{NodeReplica, NodeReplicas, NodeTurn, after_node_step, after_node_turn, after_node_turns}
use Rattle.bfs_nodes_agree.specs.Nodes.Steps.{NodeStep, outcome}
use Rattle.bfs_service.specs.Acting.{Acting, after_step, after_steps}

pub either : {P : Type 0} (b : Bool) → (b ≡ true → P) → (b ≡ false → P) → P
either true so other = so refl
either false so other = other refl

-- a replica is the node of a process; what it has sent waits to be told, or was said
pub record Tracks (Said : Signed Message → Type 0) (r : NodeReplica) (a : Acting) : Type 0 where
  pub node : r.node ≡ a.node
  pub all : (m : Signed Message) → IsIn m r.sent → IsIn m a.sent ⊎ Said m
  pub here : (m : Signed Message) → IsIn m a.sent → IsIn m r.sent

step_tracks : (Said : Signed Message → Type 0) (r : NodeReplica) (a : Acting) (step : NodeStep) → Tracks Said r a → Tracks Said (after_node_step r step) (after_step a step)
step_tracks Said r a step t =
    let ours = (outcome r.node step).sent in
    let theirs = (outcome a.node step).sent in
    record {
      node = ap (λ (n : Node). (outcome n step).now) t.node;
      all = λ m i. elim (either_in ours r.sent m i) [
        | inl j ↦ inl (right_in a.sent theirs m (subst (λ (n : Node). IsIn m (outcome n step).sent) t.node j))
        | inr j ↦ elim (t.all m j) [ inl k ↦ inl (left_in a.sent theirs m k) | inr said ↦ inr said ]
      ];
      here = λ m i. elim (either_in a.sent theirs m i) [
        | inl j ↦ right_in ours r.sent m (t.here m j)
        | inr j ↦ left_in ours r.sent m (subst (λ (n : Node). IsIn m (outcome n step).sent) (sym t.node) j)
      ];
    }

abbrev pub turns_of : ℕ → List NodeStep → List NodeTurn
turns_of who steps = map (λ step. record { who = who; step = step }) steps

pub steps_track : (Said : Signed Message → Type 0) (w : NodeReplicas) (who : ℕ) (a : Acting) (steps : List NodeStep) → Tracks Said (w who) a
    → Tracks Said (after_node_turns w (turns_of who steps) who) (after_steps a steps)
steps_track Said w who a [] t = t
steps_track Said w who a (step ∷ steps) t =
    let turn : NodeTurn = record { who = who; step = step } in
    steps_track Said (after_node_turn w turn) who (after_step a step) steps
    (subst (λ (r : NodeReplica). Tracks Said r (after_step a step)) (sym (here_after w turn)) (step_tracks Said (w who) a step t))

other_stays : (w : NodeReplicas) (who k : ℕ) (step : NodeStep) → (k == who) ≡ false → after_node_turn w (record { who = who; step = step }) k ≡ w k
other_stays w who k step differs = ap (λ (b : Bool). if b then after_node_step (w who) step else w k) differs

pub others_stay : (w : NodeReplicas) (who k : ℕ) (steps : List NodeStep) → (k == who) ≡ false → after_node_turns w (turns_of who steps) k ≡ w k
others_stay w who k [] differs = refl
others_stay w who k (step ∷ steps) differs =
    others_stay (after_node_turn w (record { who = who; step = step })) who k steps differs ∙ other_stays w who k step differs

pub turns_both : (w : NodeReplicas) (xs ys : List NodeTurn) → after_node_turns w (xs ++ ys) ≡ after_node_turns (after_node_turns w xs) ys
turns_both w [] ys = refl
turns_both w (x ∷ xs) ys = turns_both (after_node_turn w x) xs ys

sent_stays_one : (w : NodeReplicas) (turn : NodeTurn) (k : ℕ) (m : Signed Message) → IsIn m (w k).sent → IsIn m (after_node_turn w turn k).sent
sent_stays_one w turn k m i = either (k == turn.who)
    (λ is_it. let same = eqb-true k turn.who is_it in
    subst (λ (j : ℕ). IsIn m (after_node_turn w turn j).sent) (sym same)
    (subst (λ (r : NodeReplica). IsIn m r.sent) (sym (here_after w turn)) (right_in (outcome (w turn.who).node turn.step).sent (w turn.who).sent m (subst (λ (j : ℕ). IsIn m (w j).sent) same i))))
    (λ differs. subst (λ (r : NodeReplica). IsIn m r.sent) (sym (other_stays w turn.who k turn.step differs)) i)

pub sent_stays : (w : NodeReplicas) (turns : List NodeTurn) (k : ℕ) (m : Signed Message) → IsIn m (w k).sent → IsIn m (after_node_turns w turns k).sent
sent_stays w [] k m i = i
sent_stays w (turn ∷ turns) k m i = sent_stays (after_node_turn w turn) turns k m (sent_stays_one w turn k m i)
