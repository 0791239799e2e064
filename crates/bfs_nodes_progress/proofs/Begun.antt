-- VIEW-CHANGEs of members come to the primary of their view, whatever else comes: it begins the view.
use Rattle.std.proofs.Common.{◌≡◌, ℕ, zero, suc, ◌+◌, ◌*◌, ◌<◌, ◌≤◌, ◌==◌, Bool, true, false, ◌&&◌, List, [], ◌∷◌, length, get_or, replicate, inl, inr, refl, sym, ap, subst, ◌∙◌, arith}
use Rattle.std.specs.Prelude.{nat_le, nat_lt}
use Rattle.std.proofs.lemmas.Bool.{and_from, cases_Bool, cases_lt, cond_both, eq-eqb, eqb-true, le-leb, lt-ltb}
use Rattle.bfs_auth.specs.Keys.{Keys}
use Rattle.bfs_auth.specs.declared.principals.Principal.TheVariants as principal
use Rattle.bfs_messages.specs.Messages as model
use Rattle.bfs_messages.specs.Signing.{as_message, is_signed}
use Rattle.bfs_messages.specs.declared.signed.Signed.{Signed}
use Rattle.bfs_messages.specs.declared.message.Message.{Message}
use Rattle.bfs_messages.specs.declared.message.Message.TheVariants.{ViewChange}
use Rattle.bfs_votes.specs.Votes.{primary, replicas}
use Rattle.bfs_order.specs.Replica.Views.{left}
use Rattle.bfs_agreement.specs.Histories as history
use Rattle.bfs_agreement.specs.Histories.{IsIn, World, FewAreFaulty}
use Rattle.bfs_agreement.specs.Moves.{new_world}
use Rattle.bfs_view_change.specs.Changes.Keeping.{Kept, changes_for}
use Rattle.bfs_view_change.specs.Changes.ViewChanges.{valid_view_change}
use Rattle.bfs_node.specs.Changing.{own_change}
use Rattle.bfs_node.specs.Nodes.{Node, Outcome}
use Rattle.bfs_nodes_agree.specs.Orders.Replicas.{OrderReplicas, new_order_replicas}
use Rattle.bfs_nodes_agree.specs.Nodes.Premises.{AreAuthentic, Comes, HasSaid, IsAuthentic, IsWholly}
use Rattle.bfs_nodes_agree.specs.Nodes.Replicas.{NodeReplica, NodeReplicas, NodeTurn, after_node_step, after_node_turn, after_node_turns, new_node_replicas}
use Rattle.bfs_nodes_agree.specs.Nodes.Resending.{Brings}
use Rattle.bfs_nodes_agree.specs.Nodes.Steps.{NodeStep, Delivers, Takes, outcome}
use Rattle.bfs_nodes_agree.specs.Views.Changes.{told_change}
use Rattle.bfs_nodes_agree.proofs.Public.{Left, Rested, TookChange, TookNewView, change_said, here_after, left_in, passed, step_kind}
use Rattle.bfs_nodes_progress.specs.Begun.{ChangeComes}
use Rattle.bfs_nodes_progress.specs.Inside.Below.{Below}
use Rattle.bfs_nodes_progress.specs.Laws.{ViewsAreBegun, WhatIsDueIsBegun}
use Rattle.bfs_nodes_progress.specs.Rounds as rounds
use Rattle.bfs_nodes_progress.specs.Runs.{order_of}
use Rattle.bfs_nodes_progress.proofs.Places.{as_many, many_there, set_bounded}
use Rattle.bfs_nodes_progress.proofs.Prompt.{IsKnown, Prompt, asked_by, asked_rises, change_asks, new_prompt, prompt_step, takes_change}
use Rattle.bfs_nodes_progress.proofs.Quiet.{asked_there, same_f, same_me, view_there}
use Rattle.bfs_nodes_progress.proofs.Reached.{Facts, always, start_facts, step_on}
use Rattle.bfs_nodes_progress.proofs.Taking.{brings_takes}

-- Whatever comes ----------------------------------------------------------------------------------------------------------

prompt_turn : (k : ℕ) (w : NodeReplicas) (turn : NodeTurn) → Prompt (w k).node → Prompt (after_node_turn w turn k).node
prompt_turn k w turn is = cond_both (k == turn.who) (after_node_step (w turn.who) turn.step) (w k) (λ (r : NodeReplica). Prompt r.node)
    (λ same. prompt_step (w turn.who).node turn.step (subst (λ (j : ℕ). Prompt (w j).node) (eqb-true k turn.who same) is)) (λ _. is)

prompt_run : (k : ℕ) (turns : List NodeTurn) (w : NodeReplicas) → Prompt (w k).node → Prompt (after_node_turns w turns k).node
prompt_run k [] w is = is
prompt_run k (turn ∷ turns) w is = prompt_run k turns (after_node_turn w turn) (prompt_turn k w turn is)

pub what_is_due_is_begun : WhatIsDueIsBegun
what_is_due_is_begun f keys start turns k = (prompt_run k turns (new_node_replicas f keys start) (new_prompt f k (replicas f) _)).due

-- What members ask for ----------------------------------------------------------------------------------------------------

-- what comes in a step is as all that comes
wholly : (P : Signed Message → Type 0) (step : NodeStep) (m : Signed Message) → Comes P step → Brings step m → IsWholly P m
wholly P (Delivers bytes) m comes is = comes.1 m is
wholly P (Takes signed) m comes is = subst (IsWholly P) is comes.1
wholly P step m comes is = absurd is

-- who has said a VIEW-CHANGE has asked for its view, or for a later one
said_asked : (f : ℕ) (faulty : ℕ → Bool) (w : NodeReplicas) (v : OrderReplicas) (t : World) → Facts f faulty w v t → (k : ℕ) → faulty k ≡ false → (change : model.ViewChange)
    → HasSaid (w k).sent (ViewChange change) → change.view ≤ (order_of w k).asked
said_asked f faulty w v t facts k correct change said =
    let told = told_change change in
    let there : IsIn told (t k).changes = subst (λ (l : List history.ViewChange). IsIn told l) (facts.followed k).follows.changes (change_said faulty w v (λ j. (facts.right j).spoken) k change said) in
    let le = (facts.sound.kept k correct).changes_asked told there in
    let at = asked_there f faulty w v t facts k in
    omega (arith, le, at)

module _ (laws : Below) (f : ℕ) (faulty : ℕ → Bool) (positive : 0 < f) (few : FewAreFaulty f faulty) (p : ℕ) (correct : faulty p ≡ false) where
  -- no correct one has asked for less than what the node knows that it has asked for
  abbrev IsHeeded : NodeReplicas → Type 0
  IsHeeded w = (k : ℕ) → faulty k ≡ false → asked_by (w p).node k ≤ (order_of w k).asked

  module _ (w : NodeReplicas) (v : OrderReplicas) (t : World) (facts : Facts f faulty w v t) (turn : NodeTurn) (comes : Comes (IsAuthentic faulty w (w turn.who).node.keys) turn.step) where
    abbrev w1 : NodeReplicas
    w1 = after_node_turn w turn

    asked_later : (k : ℕ) → (order_of w k).asked ≤ (order_of w1 k).asked
    asked_later k =
        let first = step_on laws f faulty positive few w v t facts turn comes in
        let le = (first.later k).asked in
        let before = asked_there f faulty w v t facts k in
        let after = asked_there f faulty w1 first.orders first.world first.facts k in
        omega (arith, le, before, after)

    view_later : (k : ℕ) → (order_of w k).view ≤ (order_of w1 k).view
    view_later k =
        let first = step_on laws f faulty positive few w v t facts turn comes in
        let le = (first.later k).view in
        let before = view_there f faulty w v t facts k in
        let after = view_there f faulty w1 first.orders first.world first.facts k in
        omega (arith, le, before, after)

    -- by the one that takes the step
    heeded_here : ((k : ℕ) → faulty k ≡ false → asked_by (w turn.who).node k ≤ (order_of w k).asked) → (k : ℕ) → faulty k ≡ false → asked_by (outcome (w turn.who).node turn.step).now k ≤ (order_of w1 k).asked
    heeded_here before k fine =
        let node = (w turn.who).node in
        let was : asked_by node k ≤ (order_of w1 k).asked = let a = before k fine in let b = asked_later k in omega (arith, a, b) in
        elim (step_kind node turn.step) [
          | Rested rests ↦ subst (λ (x : Kept). get_or x.asked k 0 ≤ (order_of w1 k).asked) (sym rests.changes) was
          | TookChange c ↦
              let s = c.change in
              let m = as_message ViewChange s in
              let signed = (passed (is_signed node.keys m) _ _ c.taken).0 in
              subst (λ (o : Outcome). asked_by o.now k ≤ (order_of w1 k).asked) (sym c.is)
              (subst (λ (us : List ℕ). get_or us k 0 ≤ (order_of w1 k).asked) (sym (change_asks node s))
              (set_bounded node.changes.asked s.message.sender s.message.view k (order_of w1 k).asked was (λ same.
              let said = wholly (IsAuthentic faulty w node.keys) turn.step m comes c.came m (inl refl) k (ap (λ (j : ℕ). principal.Replica j) same) signed fine in
              let a = said_asked f faulty w v t facts k fine s.message said in
              let b = asked_later k in
              omega (arith, a, b))))
          | TookNewView c ↦ subst (λ (o : Outcome). asked_by o.now k ≤ (order_of w1 k).asked) (sym c.is) was
          | Left l ↦
              let own = own_change node l.view in
              subst (λ (o : Outcome). asked_by o.now k ≤ (order_of w1 k).asked) (sym l.is)
              (subst (λ (us : List ℕ). get_or us k 0 ≤ (order_of w1 k).asked) (sym (change_asks (record node { order = (left node.order l.view).now }) own))
              (set_bounded node.changes.asked node.order.me l.view k (order_of w1 k).asked was (λ same.
              let first = step_on laws f faulty positive few w v t facts turn comes in
              let who : turn.who ≡ k = sym (same_me f faulty w v t facts turn.who) ∙ same in
              let out = outcome node turn.step in
              let sent : IsIn (as_message ViewChange own) (w1 turn.who).sent = subst (λ (r : NodeReplica). IsIn (as_message ViewChange own) r.sent) (sym (here_after w turn))
              (left_in out.sent (w turn.who).sent (as_message ViewChange own) (subst (λ (o : Outcome). IsIn (as_message ViewChange own) o.sent) (sym l.is) (inl refl))) in
              said_asked f faulty w1 first.orders first.world first.facts k fine own.message
              (subst (λ (j : ℕ). HasSaid (w1 j).sent (ViewChange own.message)) who (as_message ViewChange own, sent, inl refl)))))
        ]

    heeded_on : IsHeeded w → IsHeeded w1
    heeded_on before k fine = cond_both (p == turn.who) (after_node_step (w turn.who) turn.step) (w p) (λ (r : NodeReplica). asked_by r.node k ≤ (order_of w1 k).asked)
        (λ same. heeded_here (subst (λ (j : ℕ). (k : ℕ) → faulty k ≡ false → asked_by (w j).node k ≤ (order_of w k).asked) (eqb-true p turn.who same) before) k fine)
        (λ _. let a = before k fine in let b = asked_later k in omega (arith, a, b))

    known_on : IsHeeded w → (k view : ℕ) → IsKnown (w p).node k view → IsKnown (w1 p).node k view
    known_on heeded k view known = elim known [
      | inl le ↦ inl (
          let rises : asked_by (w p).node k ≤ asked_by (w1 p).node k = cond_both (p == turn.who) (after_node_step (w turn.who) turn.step) (w p) (λ (r : NodeReplica). asked_by (w p).node k ≤ asked_by r.node k)
          (λ same.
          let who = eqb-true p turn.who same in
          let own : asked_by (w p).node (w p).node.order.me ≤ (w p).node.order.asked = subst (λ (j : ℕ). asked_by (w p).node j ≤ (w p).node.order.asked) (sym (same_me f faulty w v t facts p)) (heeded p correct) in
          subst (λ (j : ℕ). asked_by (w p).node k ≤ asked_by (outcome (w j).node turn.step).now k) who (asked_rises (w p).node turn.step own k))
          (λ _. omega arith) in
          omega (arith, le, rises))
      | inr le ↦ inr (let later = view_later p in omega (arith, le, later))
    ]

  -- Among turns -----------------------------------------------------------------------------------------------------------

  heeded_run : (w : NodeReplicas) (v : OrderReplicas) (t : World) → Facts f faulty w v t → (turns : List NodeTurn) → AreAuthentic faulty w turns → IsHeeded w → IsHeeded (after_node_turns w turns)
  heeded_run w v t facts [] comes is = is
  heeded_run w v t facts (turn ∷ turns) comes is =
      let first = step_on laws f faulty positive few w v t facts turn comes.0 in
      heeded_run (after_node_turn w turn) first.orders first.world first.facts turns comes.1 (heeded_on w v t facts turn comes.0 is)

  known_run : (w : NodeReplicas) (v : OrderReplicas) (t : World) → Facts f faulty w v t → (turns : List NodeTurn) → AreAuthentic faulty w turns → IsHeeded w → (k view : ℕ) → IsKnown (w p).node k view
      → IsKnown (after_node_turns w turns p).node k view
  known_run w v t facts [] comes heeded k view is = is
  known_run w v t facts (turn ∷ turns) comes heeded k view is =
      let first = step_on laws f faulty positive few w v t facts turn comes.0 in
      known_run (after_node_turn w turn) first.orders first.world first.facts turns comes.1 (heeded_on w v t facts turn comes.0 heeded) k view (known_on w v t facts turn comes.0 heeded k view is)

  -- whose VIEW-CHANGE has come is known to ask for its view
  known_at : (w : NodeReplicas) (v : OrderReplicas) (t : World) → Facts f faulty w v t → (turns : List NodeTurn) → AreAuthentic faulty w turns → Prompt (w p).node → IsHeeded w → (k view : ℕ) → k < replicas f
      → ChangeComes (w p).node.keys view k p turns → IsKnown (after_node_turns w turns p).node k view
  known_at w v t facts [] comes prompt heeded k view among come = absurd come.comes.among
  known_at w v t facts (turn ∷ turns) comes prompt heeded k view among come =
      let first = step_on laws f faulty positive few w v t facts turn comes.0 in
      let w1 = after_node_turn w turn in
      elim come.comes.among [
        | inl same ↦
            let node = (w p).node in
            let s = come.change in
            let m = as_message ViewChange s in
            let who : turn.who ≡ p = sym (ap (λ (y : NodeTurn). y.who) same) ∙ come.comes.to in
            let brings = subst (λ (y : NodeTurn). rounds.Brings y.step m) same come.comes.brings in
            let places : length node.changes.asked ≡ replicas f = as_many _ node.order.view node.changes.asked node.changes.changes prompt.there ∙ (facts.right p).kept.0 ∙ ap replicas (same_f f faulty w v t facts p) in
            let from = come.from in
            let got : IsKnown (outcome node (Takes m)).now s.message.sender s.message.view = takes_change node s come.valid (omega (arith, among, places, from)) in
            let there : (w1 p).node ≡ (outcome node (Takes m)).now = subst (λ (j : ℕ). (w1 j).node ≡ (outcome (w j).node turn.step).now) who (ap (λ (r : NodeReplica). r.node) (here_after w turn))
            ∙ ap (λ (o : Outcome). o.now) (brings_takes node turn.step m brings) in
            let now : IsKnown (w1 p).node k view = subst (λ (n : Node). IsKnown n k view) (sym there)
            (subst (λ (j : ℕ). IsKnown (outcome node (Takes m)).now j view) from (subst (λ (u : ℕ). IsKnown (outcome node (Takes m)).now s.message.sender u) come.for_view got)) in
            known_run w1 first.orders first.world first.facts turns comes.1 (heeded_on w v t facts turn comes.0 heeded) k view now
        | inr later ↦
            known_at w1 first.orders first.world first.facts turns comes.1 (prompt_turn p w turn prompt) (heeded_on w v t facts turn comes.0 heeded) k view among (record {
              change = come.change;
              from = come.from;
              for_view = come.for_view;
              valid = subst (λ (x : Keys). valid_view_change x come.change ≡ true) (sym (first.keys p)) come.valid;
              comes = record { turn = come.comes.turn; among = later; to = come.comes.to; brings = come.comes.brings };
            })
      ]

zeros : (n k : ℕ) → get_or (replicate n 0) k 0 ≤ 0
zeros zero k = omega arith
zeros (suc n) zero = omega arith
zeros (suc n) (suc k) = zeros n k

pub views_are_begun : Below → ViewsAreBegun
views_are_begun laws f keys start faulty members turns view run quorum asked come =
    let p = primary f view in
    let correct = quorum.correct p quorum.leads in
    let first = new_node_replicas f keys start in
    let last = after_node_turns first turns in
    let begins = start_facts laws f faulty run.others run.few keys start run.shared in
    let led = always laws f faulty run.others run.few keys start turns run.shared run.authentic in
    let facts = led.facts in
    let prompt0 : Prompt (first p).node = new_prompt f p (replicas f) _ in
    let heeded0 : (k : ℕ) → faulty k ≡ false → asked_by (first p).node k ≤ (order_of first k).asked = λ k _. zeros (replicas f) k in
    let heeded = heeded_run laws f faulty run.others run.few p correct first (new_order_replicas f) new_world begins turns run.authentic heeded0 in
    let prompt = prompt_run p turns first prompt0 in
    let node = (last p).node in
    let is_f = same_f f faulty last led.orders led.world facts p in
    let is_me = same_me f faulty last led.orders led.world facts p in
    let asks : node.order.asked ≡ view = asked p quorum.leads in
    let entered = (facts.sound.kept p correct).asked in
    let view_at = view_there f faulty last led.orders led.world facts p in
    let asked_at = asked_there f faulty last led.orders led.world facts p in
    elim (cases_lt node.order.view view) [
      | inr le ↦ omega (arith, le, entered, view_at, asked_at, asks)
      | inl before ↦
          let places : length node.changes.asked ≡ replicas f = as_many _ node.order.view node.changes.asked node.changes.changes prompt.there ∙ (facts.right p).kept.0 ∙ ap replicas is_f in
          let among = quorum.among p quorum.leads in
          let each : (k : ℕ) → members k ≡ true → get_or node.changes.asked k 0 ≡ view = λ k member.
          let most = heeded k (quorum.correct k member) in
          let is = asked k member in
          let least : view ≤ get_or node.changes.asked k 0 = elim (cases_Bool (k == p)) [
            | inl itself ↦
                let own = prompt.own (omega (arith, before, asks)) (omega (arith, among, places, is_me)) in
                let who : node.order.me ≡ k = is_me ∙ sym (eqb-true k p itself) in
                let at = subst (λ (j : ℕ). node.order.asked ≤ get_or node.changes.asked j 0) who own in
                omega (arith, at, asks)
            | inr other ↦ elim (known_at laws f faulty run.others run.few p correct first (new_order_replicas f) new_world begins turns run.authentic prompt0 heeded0 k view (quorum.among k member) (come k member other)) [
              | inl le ↦ le
              | inr le ↦ absurd (omega (arith, le, before))
            ]
          ] in
          omega (arith, most, is, least) in
          let leads : (node.order.me == primary node.order.f view) ≡ true = eq-eqb node.order.me (primary node.order.f view) (is_me ∙ ap (λ (g : ℕ). primary g view) (sym is_f)) in
          let many = many_there (λ (u : ℕ). node.order.me == primary node.order.f u) members node.order.view view 0 (replicas f) node.changes.asked node.changes.changes prompt.there before leads (omega (arith, places)) (λ j is. let at : 0 + j ≡ j = omega arith in each j (subst (λ (m : ℕ). members m ≡ true) at is)) in
          let enough = quorum.enough in
          let asked_is : node.order.asked ≡ view = asks in
          let due : (nat_lt node.order.view view && ((node.order.me == primary node.order.f view) && nat_le (2 * node.order.f + 1) (length (changes_for view node.changes)))) ≡ true =
          and_from _ _ (lt-ltb node.order.view view before) (and_from _ _ leads (le-leb (2 * node.order.f + 1) (length (changes_for view node.changes)) (omega (arith, many, enough, is_f)))) in
          absurd (cc (subst (λ (u : ℕ). (nat_lt node.order.view u && ((node.order.me == primary node.order.f u) && nat_le (2 * node.order.f + 1) (length (changes_for u node.changes)))) ≡ false) asks prompt.due, due))
    ]
