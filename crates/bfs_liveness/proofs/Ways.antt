-- Ways behind ways are ways, and by each a run goes on.
use Rattle.std.proofs.Common.{◌≡◌, ℕ, ◌<◌, Bool, true, false, List, [], ◌∷◌, ◌++◌, inl, inr, sym, subst, ◌∙◌, append_assoc, append-nil}
use Rattle.bfs_auth.specs.Keys.{Keys}
use Rattle.bfs_log.specs.Certificates.{StableCheckpoint, as_checkpoints, checkpoints_in, faults}
use Rattle.bfs_log.specs.Logs.{as_messages}
use Rattle.bfs_messages.specs.Signing.{as_message}
use Rattle.bfs_messages.specs.declared.message.Message.{Message}
use Rattle.bfs_messages.specs.declared.message.Message.TheVariants.{Order}
use Rattle.bfs_messages.specs.declared.order_messages.OrderMessage.{OrderMessage}
use Rattle.bfs_messages.specs.declared.signed.Signed.{Signed}
use Rattle.bfs_order.specs.declared.resending.Lag.{Lag}
use Rattle.bfs_view_change.specs.Changes.Making.{stable_checkpoints}
use Rattle.bfs_node.specs.Resending.{resent}
use Rattle.bfs_agreement.specs.Histories.{IsIn}
use Rattle.bfs_agreement.specs.Moves.{new_world}
use Rattle.bfs_nodes_agree.specs.Nodes.Laws.{BatchesDontCollide}
use Rattle.bfs_nodes_agree.specs.Nodes.Premises.{Comes, IsAmong, IsAuthentic, IsWholly, StatesDontCollide}
use Rattle.bfs_nodes_agree.specs.Nodes.Replicas.{Beginning, Keyring, NodeReplicas, NodeTurn, after_node_turn, after_node_turns, new_node_replicas}
use Rattle.bfs_nodes_agree.specs.Nodes.Resending.{WhatIsResentIsFair}
use Rattle.bfs_nodes_agree.specs.Nodes.Steps.{NodeStep, Adopts, Delivers, Settles, Takes}
use Rattle.bfs_nodes_agree.proofs.Public.{AreRight, IsSaid, map_in, said_alike, stable_holds}
use Rattle.bfs_nodes_progress.specs.Inside.Below.{Below}
use Rattle.bfs_nodes_progress.specs.Runs.{IsARun, order_of, reached}
use Rattle.bfs_nodes_progress.proofs.Public.{Leads, after_join, always, authentic_both}
use Rattle.bfs_liveness.specs.LawsOfMeeting.{WaysAreRuns}
use Rattle.bfs_liveness.specs.Ways.{AllFits, AreFairTo, GivesPass, IsAMembers, IsWay, MayTake}

-- Ways behind ways ----------------------------------------------------------------------------------------------------

pub ways_join : (members : ℕ → Bool) (w : NodeReplicas) (xs ys : List NodeTurn) → IsWay members w xs → IsWay members (after_node_turns w xs) ys → IsWay members w (xs ++ ys)
ways_join members w [] ys a b = b
ways_join members w (x ∷ xs) ys a b = (a.0, a.1, ways_join members (after_node_turn w x) xs ys a.2 b)

module _ (f : ℕ) (keys : Keyring) (start : Beginning) (members : ℕ → Bool) where
  -- what holds behind each way holds behind each that goes on behind one
  behind : (P : NodeReplicas → Type 0) (turns way : List NodeTurn) → ((further : List NodeTurn) → IsWay members (reached f keys start turns) further → P (reached f keys start (turns ++ further)))
      → IsWay members (reached f keys start turns) way → (further : List NodeTurn) → IsWay members (reached f keys start (turns ++ way)) further → P (reached f keys start ((turns ++ way) ++ further))
  behind P turns way all is further later =
      let joined = after_join (new_node_replicas f keys start) turns way in
      subst (λ (x : List NodeTurn). P (reached f keys start x)) (sym (append_assoc turns way further))
      (all (way ++ further) (ways_join members (reached f keys start turns) way further is (subst (λ (x : NodeReplicas). IsWay members x further) joined later)))

  pub fair_behind : (faulty : ℕ → Bool) (turns way : List NodeTurn) → AreFairTo f keys start faulty members turns → IsWay members (reached f keys start turns) way → AreFairTo f keys start faulty members (turns ++ way)
  fair_behind faulty turns way fair is = record {
    passes = behind (GivesPass f keys members) turns way fair.passes is;
    batches = behind (BatchesDontCollide faulty) turns way fair.batches is;
    states = behind (StatesDontCollide faulty) turns way fair.states is;
  }

  -- it holds where the way begins
  pub passes_now : (faulty : ℕ → Bool) (turns : List NodeTurn) → AreFairTo f keys start faulty members turns → GivesPass f keys members (reached f keys start turns)
  passes_now faulty turns fair = subst (λ (x : List NodeTurn). GivesPass f keys members (reached f keys start x)) (append-nil turns) (fair.passes [] tt)

-- Runs ----------------------------------------------------------------------------------------------------------------

module _ (laws : Below) (again : WhatIsResentIsFair) (f : ℕ) (keys : Keyring) (start : Beginning) (faulty members : ℕ → Bool) (correct : (k : ℕ) → members k ≡ true → faulty k ≡ false) where
  module _ (turns : List NodeTurn) (run : IsARun f keys start faulty turns) (fits : AllFits members (reached f keys start turns)) where
    abbrev w : NodeReplicas
    w = reached f keys start turns

    abbrev led : Leads f faulty (new_node_replicas f keys start) new_world w
    led = always laws f faulty run.others run.few keys start turns run.shared run.authentic

    right : AreRight f faulty w led.orders
    right = led.facts.right

    -- what stands in a log was said, and so were the CHECKPOINTs of a member's low mark
    shown_so : (by : Keys) (checkpoint : StableCheckpoint) → IsAMembers members w checkpoint → (m : Signed Message) → IsAmong m (checkpoints_in checkpoint) → IsAuthentic faulty w by m
    shown_so by checkpoint theirs m i =
        let j = theirs.0 in
        let s = order_of w j in
        let many : 0 < faults (w j).node.keys = subst (λ (n : ℕ). 0 < n) (sym ((right j).fit ∙ (right j).same_f)) run.others in
        let told = stable_holds s (λ (p : Signed OrderMessage). IsSaid faulty w (Order p.message)) (λ p there. ((right j).log p there).said (λ _. many)) in
        let among : IsIn m (as_messages (as_checkpoints (stable_checkpoints s))) = subst (λ (c : StableCheckpoint). IsAmong m (checkpoints_in c)) theirs.2 i in
        let said : IsSaid faulty w m.message = map_in (λ (p : Signed Message). IsSaid faulty w p.message) (as_message Order) (as_checkpoints (stable_checkpoints s)) told m among in
        λ k e signed fine. said k e fine

    -- what a member gives again was given to be sent by a correct node
    given_so : (by : Keys) (j : ℕ) → members j ≡ true → (to : Lag) (m : Signed Message) → IsIn m (resent (w j).node to) → IsWholly (IsAuthentic faulty w by) m
    given_so by j member to m i p of k e signed fine =
        let was = again f keys start faulty turns run.others run.shared run.authentic j (correct j member) to m by i p of k e signed fine in
        said_alike faulty w was.part.message p.message was.same ((right was.who).said was.sent was.given was.part was.is) k e fine

    comes_so : (by : Keys) (who : ℕ) (step : NodeStep) → MayTake members w who step → Comes (IsAuthentic faulty w by) step
    comes_so by who (Takes m) may =
        let j = may.0 in (
          fits j m may.1 may.2,
          elim may.2 [
            | inl sent ↦ λ p of k e signed fine. (right j).said m sent p of k e fine
            | inr given ↦ given_so by j may.1 given.0 m given.1
          ],
        )
    comes_so by who (Adopts checkpoint files table) may = shown_so by checkpoint may.0
    comes_so by who (Settles checkpoint) may = shown_so by checkpoint may
    comes_so by who (Delivers bytes) may = absurd may
    comes_so by who step may = tt

    -- by a turn that members may take the run goes on
    turn_runs : (turn : NodeTurn) → MayTake members w turn.who turn.step → IsARun f keys start faulty (turns ++ turn ∷ [])
    turn_runs turn may = record {
      others = run.others;
      shared = run.shared;
      few = run.few;
      authentic = authentic_both faulty (new_node_replicas f keys start) turns (turn ∷ []) run.authentic (comes_so (w turn.who).node.keys turn.who turn.step may, tt);
    }

  -- where all fits that they give, by the way
  pub runs_on : (turns way : List NodeTurn) → IsARun f keys start faulty turns
      → ((further : List NodeTurn) → IsWay members (reached f keys start turns) further → AllFits members (reached f keys start (turns ++ further)))
      → IsWay members (reached f keys start turns) way → IsARun f keys start faulty (turns ++ way)
  runs_on turns [] run fits is = subst (IsARun f keys start faulty) (sym (append-nil turns)) run
  runs_on turns (turn ∷ way) run fits is =
      let one = turn ∷ [] in
      let joined = after_join (new_node_replicas f keys start) turns one in
      let now = subst (λ (x : List NodeTurn). AllFits members (reached f keys start x)) (append-nil turns) (fits [] tt) in
      let next = turn_runs turns run now turn is.1 in
      subst (IsARun f keys start faulty) (append_assoc turns one way)
      (runs_on (turns ++ one) way next (behind f keys start members (AllFits members) turns one fits (is.0, is.1, tt)) (subst (λ (x : NodeReplicas). IsWay members x way) (sym joined) is.2))

  pub goes_on : (turns way : List NodeTurn) → IsARun f keys start faulty turns → AreFairTo f keys start faulty members turns → IsWay members (reached f keys start turns) way → IsARun f keys start faulty (turns ++ way)
  goes_on turns way run fair is = runs_on turns way run (λ further way_is. (fair.passes further way_is).fits) is

pub ways_are_runs : Below → WhatIsResentIsFair → WaysAreRuns
ways_are_runs laws again f keys start faulty members turns way run are fair is = (
  goes_on laws again f keys start faulty members are.correct turns way run fair is,
  fair_behind f keys start members faulty turns way fair is,
)
