-- NEW-VIEWs come to members that have asked for their view, whatever else comes.
use Rattle.std.proofs.Common.{◌≡◌, ℕ, ◌<◌, ◌≤◌, ◌==◌, Bool, true, cond, ◌&&◌, not, List, [], ◌∷◌, ◌++◌, Option, Some, None, option_map, inl, inr, refl, sym, ap, ap₂, subst, ◌∙◌, arith}
use Rattle.std.specs.Prelude.{nat_lt, nat_le}
use Rattle.std.proofs.lemmas.Bool.{and_from, cases_Bool, cases_lt, eqb-true, le-leb, lt-ltb}
use Rattle.bfs_auth.specs.Keys.{Keys}
use Rattle.bfs_votes.specs.Votes.{primary}
use Rattle.bfs_log.specs.Headers.{header}
use Rattle.bfs_log.specs.Logs.{Log}
use Rattle.bfs_messages.specs.Messages as model
use Rattle.bfs_messages.specs.Signing.{as_message}
use Rattle.bfs_messages.specs.declared.signed.Signed.{Signed}
use Rattle.bfs_messages.specs.declared.message.Message.TheVariants.{NewView}
use Rattle.bfs_model.specs.Server.Limits.{most_number}
use Rattle.bfs_order.specs.Replica.Accepting.{accepted}
use Rattle.bfs_order.specs.Replica.Installing.{raised}
use Rattle.bfs_order.specs.Replica.Refusals.{place_refusal}
use Rattle.bfs_order.specs.Replica.States.{State}
use Rattle.bfs_order.specs.Replica.Views.{all_taken_over, as_proposals, entering_refusal, number_of, opened}
use Rattle.bfs_order.specs.declared.error.OrderError.{OrderError}
use Rattle.bfs_order.specs.declared.error.OrderError.TheVariants.{WrongView}
use Rattle.bfs_agreement.specs.Histories.{World, FewAreFaulty}
use Rattle.bfs_node.specs.Changing.{first_of, view_refusal, with_new_view}
use Rattle.bfs_node.specs.Errors.{of_order, of_view}
use Rattle.bfs_node.specs.Nodes.{Node, Outcome}
use Rattle.bfs_node.specs.declared.error.NodeError.{NodeError}
use Rattle.bfs_view_change.specs.Changes.NewViews.{latest_checkpoint, new_view_refusal}
use Rattle.bfs_view_change.specs.Changes.ViewChanges.{messages_of}
use Rattle.bfs_view_change.specs.declared.error.ViewError.{ViewError}
use Rattle.bfs_nodes_agree.specs.Orders.Replicas.{OrderReplicas}
use Rattle.bfs_nodes_agree.specs.Nodes.Premises.{AreAuthentic}
use Rattle.bfs_nodes_agree.specs.Nodes.Replicas.{NodeReplica, NodeReplicas, NodeTurn, after_node_turn, after_node_turns, new_node_replicas}
use Rattle.bfs_nodes_agree.specs.Nodes.Steps.{Takes, outcome, unless}
use Rattle.bfs_nodes_agree.proofs.Public.{either_way, here_after, IsBounded}
use Rattle.bfs_nodes_progress.specs.Entering.{NewViewComes}
use Rattle.bfs_nodes_progress.specs.Inside.Below.{Below}
use Rattle.bfs_nodes_progress.specs.Laws.{NewViewsAreEntered}
use Rattle.bfs_nodes_progress.specs.Members.{AreTogether}
use Rattle.bfs_nodes_progress.specs.Rounds.{Brings}
use Rattle.bfs_nodes_progress.specs.Runs.{order_of}
use Rattle.bfs_nodes_progress.proofs.Quiet.{asked_there, view_there}
use Rattle.bfs_nodes_progress.proofs.Reached.{Facts, always, run_on, step_on}
use Rattle.bfs_nodes_progress.proofs.Rounds.{after_join, authentic_parts}
use Rattle.bfs_nodes_progress.proofs.Taking.{brings_takes}

-- By a node ---------------------------------------------------------------------------------------------------------------

over_view : (keys : Keys) (s : State) (ms : Log) → (all_taken_over keys s ms).now.view ≡ s.view
over_view keys s [] = refl
over_view keys s (m ∷ ms) = either_way (λ o. (all_taken_over keys o.now ms).now.view ≡ s.view) (place_refusal s (header m)) s (accepted keys s m)
    (λ _. over_view keys (accepted keys s m).now ms) (over_view keys s ms)

may_enter : (s : State) (view : ℕ) → s.view < view → s.asked ≤ view → nat_le view most_number ≡ true → entering_refusal s view ≡ None
may_enter s view above asked bounded =
    ap (λ (b : Bool). cond (not b) (Some WrongView) None)
    (and_from (nat_lt s.view view) (nat_le s.asked view && nat_le view most_number) (lt-ltb s.view view above) (and_from (nat_le s.asked view) (nat_le view most_number) (le-leb s.asked view asked) bounded))

-- one that is right takes it into the view
enters_by : (node : Node) (s : Signed model.NewView) → new_view_refusal node.keys s ≡ None → node.order.view < s.message.view → node.order.asked ≤ s.message.view → nat_le s.message.view most_number ≡ true
    → (outcome node (Takes (as_message NewView s))).now.order.view ≡ s.message.view
enters_by node s right above asked bounded =
    let new = s.message in
    let stable = latest_checkpoint (messages_of new.changes) in
    let none : view_refusal node s ≡ None = ap₂ (λ (a : Option ViewError) (b : Option OrderError). first_of (option_map of_view a) (option_map of_order b)) right (may_enter node.order new.view above asked bounded) in
    subst (λ (r : Option NodeError). (unless r node (with_new_view node s)).now.order.view ≡ new.view) (sym none)
    (over_view node.keys (opened (raised node.keys node.order stable) new.view (number_of stable) new.proposals) (as_proposals new.proposals))

-- Among turns -------------------------------------------------------------------------------------------------------------

module _ (laws : Below) (f : ℕ) (faulty : ℕ → Bool) (positive : 0 < f) (few : FewAreFaulty f faulty) where
  -- one that has asked for the view, and asks for none later, has entered it at the end
  comes_in : (w : NodeReplicas) (v : OrderReplicas) (t : World) → Facts f faulty w v t → (turns : List NodeTurn) → AreAuthentic faulty w turns → (k view : ℕ) → (order_of w k).asked ≡ view
      → (order_of (after_node_turns w turns) k).asked ≡ view → NewViewComes (w k).node.keys view k turns → view ≤ (order_of (after_node_turns w turns) k).view
  comes_in w v t facts [] authentic k view asked then come = absurd come.comes.among
  comes_in w v t facts (turn ∷ turns) authentic k view asked then come =
      let w1 = after_node_turn w turn in
      let last = after_node_turns w1 turns in
      let first = step_on laws f faulty positive few w v t facts turn authentic.0 in
      let rest = run_on laws f faulty positive few w1 first.orders first.world first.facts turns authentic.1 in
      let view_first = (first.later k).view in
      let view_rest = (rest.later k).view in
      let asked_first = (first.later k).asked in
      let asked_rest = (rest.later k).asked in
      let view0 = view_there f faulty w v t facts k in
      let view1 = view_there f faulty w1 first.orders first.world first.facts k in
      let view2 = view_there f faulty last rest.orders rest.world rest.facts k in
      let asked0 = asked_there f faulty w v t facts k in
      let asked1 = asked_there f faulty w1 first.orders first.world first.facts k in
      let asked2 = asked_there f faulty last rest.orders rest.world rest.facts k in
      elim come.comes.among [
        | inl same ↦ elim (cases_lt (order_of w k).view view) [
          | inl before ↦
              let who : turn.who ≡ k = sym (ap (λ (y : NodeTurn). y.who) same) ∙ come.comes.to in
              let s = come.new in
              let brings = subst (λ (y : NodeTurn). Brings y.step (as_message NewView s)) same come.comes.brings in
              let node = (w k).node in
              let bounded : nat_le view most_number ≡ true = subst (λ (x : ℕ). nat_le x most_number ≡ true) asked (subst IsBounded (facts.right k).tracks.state (facts.right k).bounded) in
              let of_view = come.for_view in
              let entered : (outcome node (Takes (as_message NewView s))).now.order.view ≡ s.message.view =
              enters_by node s come.right (omega (arith, before, of_view)) (omega (arith, asked, of_view)) (subst (λ (x : ℕ). nat_le x most_number ≡ true) (sym of_view) bounded) in
              let at_who : (w1 turn.who).node.order ≡ (outcome (w turn.who).node turn.step).now.order = ap (λ (r : NodeReplica). r.node.order) (here_after w turn) in
              let there : (w1 k).node.order ≡ (outcome node turn.step).now.order = subst (λ (j : ℕ). (w1 j).node.order ≡ (outcome (w j).node turn.step).now.order) who at_who in
              let now = ap (λ (x : State). x.view) there ∙ ap (λ (o : Outcome). o.now.order.view) (brings_takes node turn.step (as_message NewView s) brings) ∙ entered ∙ of_view in
              omega (arith, now, view1, view_rest, view2)
          | inr le ↦ omega (arith, le, view0, view_first, view_rest, view2)
        ]
        | inr later ↦
            let still : (order_of w1 k).asked ≡ view = omega (arith, asked, then, asked0, asked1, asked2, asked_first, asked_rest) in
            comes_in w1 first.orders first.world first.facts turns authentic.1 k view still then (record {
              new = come.new;
              for_view = come.for_view;
              right = subst (λ (x : Keys). new_view_refusal x come.new ≡ None) (sym (first.keys k)) come.right;
              comes = record { turn = come.comes.turn; among = later; to = come.comes.to; brings = come.comes.brings };
            })
      ]

pub new_views_are_entered : Below → NewViewsAreEntered
new_views_are_entered laws f keys start faulty members turns further view run asked then begun come =
    let first = new_node_replicas f keys start in
    let w = after_node_turns first turns in
    let last = after_node_turns w further in
    let at : after_node_turns first (turns ++ further) ≡ last = after_join first turns further in
    let authentic = authentic_parts faulty first turns further run.authentic in
    let led = always laws f faulty run.others run.few keys start turns run.shared authentic.0 in
    let rest = run_on laws f faulty run.others run.few w led.orders led.world led.facts further authentic.1 in
    let asked_last : (k : ℕ) → members k ≡ true → (order_of last k).asked ≡ view = λ k x. subst (λ (y : NodeReplicas). (order_of y k).asked ≡ view) at (then k x) in
    subst (λ (x : NodeReplicas). AreTogether f faulty members x view) (sym at) (record {
      quorum = asked.quorum;
      entered = λ k x. elim (cases_Bool (k == primary f view)) [
        | inl leads ↦ subst (λ (j : ℕ). (order_of last j).view ≡ view) (sym (eqb-true k (primary f view) leads)) (subst (λ (y : NodeReplicas). (order_of y (primary f view)).view ≡ view) at begun)
        | inr other ↦
            let c = come k x other in
            let le = comes_in laws f faulty run.others run.few w led.orders led.world led.facts further authentic.1 k view (asked.asked k x) (asked_last k x) (record {
              new = c.new;
              for_view = c.for_view;
              right = subst (λ (y : Keys). new_view_refusal y c.new ≡ None) (sym (led.keys k)) c.right;
              comes = c.comes;
            }) in
            let kept = (rest.facts.sound.kept k (asked.quorum.correct k x)).asked in
            let is = asked_last k x in
            let there = view_there f faulty last rest.orders rest.world rest.facts k in
            let asks = asked_there f faulty last rest.orders rest.world rest.facts k in
            omega (arith, le, kept, is, there, asks)
      ];
      asked = asked_last;
    })
