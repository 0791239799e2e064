-- Turns of many nodes, one behind another: what those that take none keep, and when they are a way.
use Rattle.std.proofs.Common.{◌≡◌, ℕ, ◌==◌, Bool, true, false, cond, List, [], ◌∷◌, inl, inr, refl, sym, ap, subst, ◌∙◌}
use Rattle.std.proofs.lemmas.Bool.{cond_both, eqb-true}
use Rattle.bfs_messages.specs.declared.message.Message.{Message}
use Rattle.bfs_messages.specs.declared.signed.Signed.{Signed}
use Rattle.bfs_node.specs.Nodes.{Node}
use Rattle.bfs_agreement.specs.Histories.{IsIn}
use Rattle.bfs_nodes_agree.specs.Nodes.Replicas.{NodeReplica, NodeReplicas, NodeTurn, after_node_step, after_node_turn, after_node_turns}
use Rattle.bfs_nodes_agree.specs.Nodes.Steps.{Takes, outcome}
use Rattle.bfs_liveness.specs.Ways.{Gives, IsWay, MayTake}

-- a node takes none of them
abbrev pub Rests : (k : ℕ) → List NodeTurn → Type 0
Rests k turns = (turn : NodeTurn) → IsIn turn turns → (k == turn.who) ≡ false

stays_once : (w : NodeReplicas) (turn : NodeTurn) (k : ℕ) → (k == turn.who) ≡ false → after_node_turn w turn k ≡ w k
stays_once w turn k other = ap (λ (b : Bool). cond b (after_node_step (w turn.who) turn.step) (w k)) other

pub stays : (turns : List NodeTurn) (w : NodeReplicas) (k : ℕ) → Rests k turns → after_node_turns w turns k ≡ w k
stays [] w k rests = refl
stays (turn ∷ turns) w k rests = stays turns (after_node_turn w turn) k (λ other i. rests other (inr i)) ∙ stays_once w turn k (rests turn (inl refl))

-- what each of the steps keeps holds behind them
pub kept_by : (P : Node → Type 0) (turns : List NodeTurn) → ((turn : NodeTurn) → IsIn turn turns → (node : Node) → P node → P (outcome node turn.step).now)
    → (w : NodeReplicas) (k : ℕ) → P (w k).node → P (after_node_turns w turns k).node
kept_by P [] each w k is = is
kept_by P (turn ∷ turns) each w k is =
    kept_by P turns (λ other i. each other (inr i)) (after_node_turn w turn) k
    (cond_both (k == turn.who) (after_node_step (w turn.who) turn.step) (w k) (λ (r : NodeReplica). P r.node)
    (λ same. each turn (inl refl) (w turn.who).node (subst (λ (j : ℕ). P (w j).node) (eqb-true k turn.who same) is)) (λ _. is))

-- Ways ----------------------------------------------------------------------------------------------------------------

module _ (members : ℕ → Bool) where
  -- by which a member takes what another one gives, which takes none itself
  pub record IsGiven (w : NodeReplicas) (turns : List NodeTurn) (turn : NodeTurn) : Type 0 where
    pub to : members turn.who ≡ true
    pub message : Signed Message
    pub step : turn.step ≡ Takes message
    pub from : ℕ
    pub member : members from ≡ true
    pub gives : Gives (w from) message
    pub rests : Rests from turns

  pub given_way : (turns : List NodeTurn) (w : NodeReplicas) → ((turn : NodeTurn) → IsIn turn turns → IsGiven w turns turn) → IsWay members w turns
  given_way [] w given = tt
  given_way (turn ∷ turns) w given =
      let first = given turn (inl refl) in (
        first.to,
        subst (MayTake members w turn.who) (sym first.step) (first.from, first.member, first.gives),
        given_way turns (after_node_turn w turn) (λ other i.
            let later = given other (inr i) in
            record {
              to = later.to;
              message = later.message;
              step = later.step;
              from = later.from;
              member = later.member;
              gives = subst (λ (r : NodeReplica). Gives r later.message) (sym (stays_once w turn later.from (later.rests turn (inl refl)))) later.gives;
              rests = λ x j. later.rests x (inr j);
            }),
      )
