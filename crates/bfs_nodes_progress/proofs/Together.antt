-- VIEW-CHANGEs come to a primary, and then its NEW-VIEW to the others: they are together in the view.
use Rattle.std.proofs.Common.{◌≡◌, ℕ, ◌<◌, ◌==◌, Bool, true, false, cond, List, [], ◌∷◌, ◌++◌, Option, Some, None, map, inl, inr, refl, sym, ap, subst, ◌∙◌, append_assoc, arith, option_to_list}
use Rattle.std.specs.Prelude.{nat_lt}
use Rattle.std.proofs.lemmas.Bool.{cond_both, eqb-true, lt-ltb}
use Rattle.std.proofs.lemmas.List.{length-replicate}
use Rattle.bfs_log.specs.Logs.{as_messages}
use Rattle.bfs_messages.specs.Signing.{as_message}
use Rattle.bfs_messages.specs.declared.signed.Signed.{Signed}
use Rattle.bfs_messages.specs.declared.message.Message.{Message}
use Rattle.bfs_messages.specs.declared.message.Message.TheVariants.{NewView, ViewChange}
use Rattle.bfs_votes.specs.Votes.{primary, replicas}
use Rattle.bfs_order.specs.Replica.Resending as order
use Rattle.bfs_agreement.specs.Histories.{IsIn, World, FewAreFaulty}
use Rattle.bfs_agreement.specs.Moves.{new_world}
use Rattle.bfs_node.specs.Resending.{change_resent, new_view_resent}
use Rattle.bfs_nodes_agree.specs.Orders.Replicas.{OrderReplicas, new_order_replicas}
use Rattle.bfs_nodes_agree.specs.Nodes.Premises.{AreAuthentic, AreShared}
use Rattle.bfs_nodes_agree.specs.Nodes.Replicas.{Beginning, Keyring, NodeReplica, NodeReplicas, NodeTurn, after_node_step, after_node_turn, after_node_turns, new_node_replicas}
use Rattle.bfs_nodes_agree.proofs.Public.{left_in, new_right, none_kept, right_in, rightly_entered}
use Rattle.bfs_nodes_progress.specs.Begun.{AllAsk}
use Rattle.bfs_nodes_progress.specs.Inside.Below.{Below}
use Rattle.bfs_nodes_progress.specs.Laws.{ChangesAreGiven, EntersTogether, NewViewsAreGiven}
use Rattle.bfs_nodes_progress.specs.Runs.{IsARun, order_of}
use Rattle.bfs_nodes_progress.proofs.Begun.{views_are_begun}
use Rattle.bfs_nodes_progress.proofs.Entering.{new_views_are_entered}
use Rattle.bfs_nodes_progress.proofs.Giving.{AnyChange, Fits, Keeps, KeepsNewView, keeps_step}
use Rattle.bfs_nodes_progress.proofs.Quiet.{asked_there}
use Rattle.bfs_nodes_progress.proofs.Reached.{Facts, always, run_on, start_facts, step_on}
use Rattle.bfs_nodes_progress.proofs.Rounds.{after_join, authentic_parts}

-- What each keeps ---------------------------------------------------------------------------------------------------------

module _ (laws : Below) (f : ℕ) (faulty : ℕ → Bool) (positive : 0 < f) (few : FewAreFaulty f faulty) where
  keeps_run : (w : NodeReplicas) (v : OrderReplicas) (t : World) → Facts f faulty w v t → (turns : List NodeTurn) → AreAuthentic faulty w turns → (k : ℕ) → Keeps f (w k).node → Keeps f (after_node_turns w turns k).node
  keeps_run w v t facts [] comes k is = is
  keeps_run w v t facts (turn ∷ turns) comes k is =
      let first = step_on laws f faulty positive few w v t facts turn comes.0 in
      let right = facts.right turn.who in
      let fits : Fits f (w turn.who).node = record { keys = right.fit; same = right.same_f } in
      keeps_run (after_node_turn w turn) first.orders first.world first.facts turns comes.1 k
      (cond_both (k == turn.who) (after_node_step (w turn.who) turn.step) (w k) (λ (r : NodeReplica). Keeps f r.node)
      (λ same. keeps_step f (w turn.who).node turn.step fits (subst (λ (j : ℕ). Keeps f (w j).node) (eqb-true k turn.who same) is)) (λ _. is))

  pub keeps_all : (keys : Keyring) (start : Beginning) (turns : List NodeTurn) → AreShared f keys → AreAuthentic faulty (new_node_replicas f keys start) turns → (k : ℕ) → Keeps f (after_node_turns (new_node_replicas f keys start) turns k).node
  keeps_all keys start turns shared comes k =
      keeps_run (new_node_replicas f keys start) (new_order_replicas f) new_world (start_facts laws f faulty positive few keys start shared) turns comes k (record {
        places = (length-replicate (replicas f) None, none_kept AnyChange 0 (replicas f));
        entered = inl refl;
        leaving = λ lt. absurd (omega (arith, lt));
      })

-- What each gives again ---------------------------------------------------------------------------------------------------

if_kept : {A : Type 0} (as_sent : A → Signed Message) (b : Bool) (o : Option A) (x : A) → b ≡ true → o ≡ Some x → IsIn (as_sent x) (cond b (map as_sent (option_to_list o)) [])
if_kept as_sent true (Some y) x so is = inl (ap as_sent (sym (is_that x y is)))
  where
    is_that : {A : Type 0} (x y : A) → Some y ≡ Some x → y ≡ x
    is_that x y e = cc
if_kept as_sent true None x so is = absurd cc
if_kept as_sent false o x so is = absurd cc

pub changes_are_given : Below → ChangesAreGiven
changes_are_given laws f keys start faulty turns k run leaving =
    let w = after_node_turns (new_node_replicas f keys start) turns in
    let node = (w k).node in
    let kept = (keeps_all laws f faulty run.others run.few keys start turns run.shared run.authentic k).leaving leaving in
    record {
      change = kept.change;
      kept = kept.is;
      from = kept.from;
      for_view = kept.of_view;
      given = λ to. left_in (change_resent node) (new_view_resent node to ++ as_messages (order.resent node.order to)) (as_message ViewChange kept.change)
          (if_kept (as_message ViewChange) (nat_lt node.order.view node.order.asked) node.changes.own kept.change (lt-ltb node.order.view node.order.asked leaving) kept.is);
    }

pub new_views_are_given : Below → NewViewsAreGiven
new_views_are_given laws f keys start faulty turns k run later =
    let first = new_node_replicas f keys start in
    let w = after_node_turns first turns in
    let node = (w k).node in
    elim ((keeps_all laws f faulty run.others run.few keys start turns run.shared run.authentic k).entered) [
      | inl none ↦ absurd (omega (arith, later, none))
      | inr kept ↦ record {
        new = kept.new;
        kept = kept.is;
        of_view = kept.of_view;
        from = kept.led;
        said = λ correct. rightly_entered laws.same laws.views laws.written laws.one f faulty turns first (new_order_replicas f) (new_right laws.same laws.views laws.written laws.one f faulty keys start run.shared) run.authentic
            (λ i s e. absurd cc) k kept.new kept.is (as_message NewView kept.new) (inl refl) kept.new.message.sender refl correct;
        given = λ to earlier. right_in (change_resent node) (new_view_resent node to ++ as_messages (order.resent node.order to)) (as_message NewView kept.new)
            (left_in (new_view_resent node to) (as_messages (order.resent node.order to)) (as_message NewView kept.new)
            (if_kept (as_message NewView) (nat_lt to.view node.order.view) node.new_view kept.new (lt-ltb to.view node.order.view earlier) kept.is));
        right = kept.right;
      }
    ]

-- Together ----------------------------------------------------------------------------------------------------------------

pub enters_together : Below → EntersTogether
enters_together laws f keys start faulty members turns one two view run asked then changes given =
    let p = primary f view in
    let first = new_node_replicas f keys start in
    let whole = turns ++ (one ++ two) in
    let w = after_node_turns first turns in
    let middle = after_node_turns first (turns ++ one) in
    let last = after_node_turns first whole in
    let ordered : (turns ++ one) ++ two ≡ whole = append_assoc turns one two in
    let parts = authentic_parts faulty first (turns ++ one) two (subst (λ (x : List NodeTurn). AreAuthentic faulty first x) (sym ordered) run.authentic) in
    let begun_run : IsARun f keys start faulty (turns ++ one) = record { others = run.others; shared = run.shared; few = run.few; authentic = parts.0 } in
    let early = authentic_parts faulty first turns one parts.0 in
    let led = always laws f faulty run.others run.few keys start turns run.shared early.0 in
    let to_middle = run_on laws f faulty run.others run.few w led.orders led.world led.facts one early.1 in
    let middle_at : after_node_turns w one ≡ middle = sym (after_join first turns one) in
    let to_last = run_on laws f faulty run.others run.few (after_node_turns w one) to_middle.orders to_middle.world to_middle.facts two (subst (λ (x : NodeReplicas). AreAuthentic faulty x two) (sym middle_at) parts.1) in
    let last_at : after_node_turns (after_node_turns w one) two ≡ last = ap (λ (x : NodeReplicas). after_node_turns x two) middle_at ∙ sym (after_join first (turns ++ one) two) ∙ ap (λ (x : List NodeTurn). after_node_turns first x) ordered in
    let asks : AllAsk members middle view = λ k member.
    let a = asked.asked k member in
    let z = subst (λ (x : NodeReplicas). (order_of x k).asked ≡ view) (sym last_at) (then k member) in
    let up = (to_middle.later k).asked in
    let on = (to_last.later k).asked in
    let at = asked_there f faulty w led.orders led.world led.facts k in
    let at_middle = asked_there f faulty (after_node_turns w one) to_middle.orders to_middle.world to_middle.facts k in
    let at_last = asked_there f faulty (after_node_turns (after_node_turns w one) two) to_last.orders to_last.world to_last.facts k in
    subst (λ (x : NodeReplicas). (order_of x k).asked ≡ view) middle_at (omega (arith, a, z, up, on, at, at_middle, at_last)) in
    let begun = views_are_begun laws f keys start faulty members (turns ++ one) view begun_run asked.quorum asks changes in
    let still = views_are_begun laws f keys start faulty members whole view run asked.quorum then (λ k member other.
    let c = changes k member other in
    record {
      change = c.change;
      from = c.from;
      for_view = c.for_view;
      valid = c.valid;
      comes = record { turn = c.comes.turn; among = subst (λ (x : List NodeTurn). IsIn c.comes.turn x) ordered (left_in (turns ++ one) two c.comes.turn c.comes.among); to = c.comes.to; brings = c.comes.brings };
    }) in
    let above = asked.before p asked.quorum.leads in
    let kept : KeepsNewView f view (middle p).node.new_view = elim ((keeps_all laws f faulty run.others run.few keys start (turns ++ one) run.shared parts.0 p).entered) [
      | inl none ↦ absurd (omega (arith, above, none, begun))
      | inr kept ↦ subst (λ (u : ℕ). KeepsNewView f u (middle p).node.new_view) begun kept
    ] in
    new_views_are_entered laws f keys start faulty members turns (one ++ two) view run asked then still (λ k member other.
    let got = given k kept.new member other kept.is in
    let shared = run.shared k in
    record {
      new = kept.new;
      for_view = kept.of_view;
      right = kept.right (keys k) (omega (arith, shared)) got.0;
      comes = record { turn = got.1.turn; among = right_in one two got.1.turn got.1.among; to = got.1.to; brings = got.1.brings };
    })
