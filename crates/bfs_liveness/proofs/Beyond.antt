-- No correct node has executed a number that the primary of its view has yet to propose.
use Rattle.std.proofs.Common.{◌≡◌, ℕ, ◌<◌, max, Bool, false, List, inl, inr, sym, ap, subst, ◌∙◌, arith}
use Rattle.std.proofs.lemmas.Bool.{cases_lt}
use Rattle.bfs_log.specs.Headers.{header}
use Rattle.bfs_order.specs.Replica.Proposing.{next_number}
use Rattle.bfs_order.specs.Replica.States.{State, known}
use Rattle.bfs_order.specs.Replica.Views.{entered}
use Rattle.bfs_votes.specs.Votes.{Told, primary}
use Rattle.bfs_agreement.specs.Histories.{Execution, HasSaid}
use Rattle.bfs_agreement.specs.Laws.{Carries, QuorumsAreCarried}
use Rattle.bfs_agreement.specs.Moves.{AreAllowed, Step, after_steps, new_world}
use Rattle.bfs_agreement.proofs.Public.{run_sound, start_sound}
use Rattle.bfs_nodes_agree.specs.Nodes.Laws.{StepsAreTurns, TurnsMayBeTaken, Tracks}
use Rattle.bfs_nodes_agree.specs.Nodes.Replicas.{Beginning, Keyring, NodeReplicas, NodeTurn, new_node_replicas, ordered_turns}
use Rattle.bfs_nodes_agree.specs.Orders.Replicas.{OrderReplica, OrderReplicas, call_of, new_order_replicas}
use Rattle.bfs_nodes_agree.specs.Views.Replicas.{after_view_turns}
use Rattle.bfs_nodes_agree.proofs.Public.{IsFollowed, all_turns, either_way, entered_same, low_rises, new_followed, next_found, right_in, told_same}
use Rattle.bfs_nodes_agree.proofs.Public as agree
use Rattle.bfs_nodes_progress.specs.Inside.Below.{Below}
use Rattle.bfs_nodes_progress.specs.Runs.{IsARun, order_of, reached}
use Rattle.bfs_nodes_progress.proofs.Public.{always, low_there, responds, told_here, told_world, view_there}
use Rattle.bfs_liveness.specs.LawsOfExecuting.{NoneIsBeyond}
use Rattle.bfs_liveness.proofs.Executions.{EachRan, each_by, turns_keep}
use Rattle.bfs_liveness.proofs.Filled.{told_le}
use Rattle.bfs_liveness.proofs.Past.{have_past}

-- A world of moves ----------------------------------------------------------------------------------------------------

-- nodes, orders that do as they do, and moves from the beginning that follow these
record IsMoved (f : ℕ) (faulty : ℕ → Bool) (w : NodeReplicas) : Type 0 where
  orders : OrderReplicas
  steps : List Step
  allowed : AreAllowed f faulty new_world steps
  followed : IsFollowed f orders (after_steps f new_world steps)
  tracks : (k : ℕ) → Tracks (w k) (orders k)
  ran : (k : ℕ) → EachRan (orders k).state (orders k).executed

moved_so : Below → StepsAreTurns → TurnsMayBeTaken → (f : ℕ) (keys : Keyring) (start : Beginning) (faulty : ℕ → Bool) (turns : List NodeTurn) → IsARun f keys start faulty turns → IsMoved f faulty (reached f keys start turns)
moved_so laws are may f keys start faulty turns run =
    let first = new_order_replicas f in
    let list = ordered_turns (new_node_replicas f keys start) turns in
    let ordered = agree.ordered_turns faulty laws.windows laws.made laws.valid list first (λ k. laws.windows.0 f k) (may f keys start faulty turns run.shared run.authentic) in
    let moves = all_turns f faulty laws.moved laws.same ordered.0 first new_world (new_followed f) ordered.1 in
    record {
      orders = after_view_turns first list;
      steps = moves.0;
      allowed = moves.1;
      followed = subst (λ (v : OrderReplicas). IsFollowed f v (after_steps f new_world moves.0)) ordered.2 moves.2;
      tracks = are f keys start turns;
      ran = turns_keep (λ (o : OrderReplica). EachRan o.state o.executed) (λ o deed ran. each_by o.state o.executed (call_of deed) ran) list first (λ k n above under. absurd (omega (arith, above, under)));
    }

-- Not beyond ----------------------------------------------------------------------------------------------------------

-- the primary's PRE-PREPARE of the view that stands in a log is for a number below its next one
proposed_before : Below → (f : ℕ) (keys : Keyring) (start : Beginning) (faulty : ℕ → Bool) (turns : List NodeTurn) (view k n : ℕ) (d : List ℕ) → IsARun f keys start faulty turns → faulty (primary f view) ≡ false
    → (order_of (reached f keys start turns) (primary f view)).view ≡ view → Told (known (order_of (reached f keys start turns) k)) 2 (primary f view) view n d
    → n < next_number (order_of (reached f keys start turns) (primary f view))
proposed_before laws f keys start faulty turns view k n d run leads entered here =
    let p = primary f view in
    let w = reached f keys start turns in
    let s = order_of w p in
    let led = always laws f faulty run.others run.few keys start turns run.shared run.authentic in
    let facts = led.facts in
    let there = told_world f faulty w led.orders led.world facts k 2 p view n d (omega arith) here in
    let said : HasSaid (led.world p) 2 p view n d = (responds f faulty w led.orders led.world facts).heard.said k 2 p view n d (omega arith) leads there in
    let kept = facts.sound.kept p leads in
    let low = low_there f faulty w led.orders led.world facts p in
    let handed = (facts.followed p).follows.state.handed ∙ ap (λ (x : State). max x.min_s x.handed) (facts.right p).tracks.state in
    elim said [
      | inl told ↦ elim (kept.linked 2 p view n d told) [
        | inl under ↦ omega (arith, under, low)
        | inr stands ↦
            let own = told_here f faulty w led.orders led.world facts p 2 p view n d (omega arith) stands in
            let le = told_le s.view (known s) p n d (subst (λ (u : ℕ). Told (known s) 2 p u n d) (sym entered) own) in
            omega (arith, le)
      ]
      | inr offer ↦ let top = kept.offers_top p view n d offer.1 (sym (view_there f faulty w led.orders led.world facts p ∙ entered)) in omega (arith, top, handed)
    ]

pub none_is_beyond : Below → StepsAreTurns → TurnsMayBeTaken → QuorumsAreCarried → NoneIsBeyond
none_is_beyond laws are may carried f keys start faulty turns view k run correct leads entered_k entered_p over =
    let p = primary f view in
    let w = reached f keys start turns in
    let moved = moved_so laws are may f keys start faulty turns run in
    let t = after_steps f new_world moved.steps in
    let sound = run_sound f faulty new_world moved.steps (start_sound f faulty) moved.allowed in
    let past = have_past f faulty moved.steps (start_sound f faulty) moved.allowed in
    let at_k = (moved.tracks k).state in
    let at_p = (moved.tracks p).state in
    let there_k = (moved.followed k).follows.state in
    let there_p = (moved.followed p).follows.state in
    let low_k : (t k).now.low ≡ (order_of w k).low = there_k.low ∙ ap (λ (s : State). s.low) at_k in
    let view_k : (t k).now.view ≡ view = there_k.view ∙ (ap (λ (s : State). s.view) at_k ∙ entered_k) in
    let view_p : (t p).now.view ≡ view = there_p.view ∙ (ap (λ (s : State). s.view) at_p ∙ entered_p) in
    let min_s_p : (t p).now.min_s ≡ (order_of w p).min_s = there_p.min_s ∙ ap (λ (s : State). s.min_s) at_p in
    let handed_p : (t p).now.handed ≡ max (order_of w p).min_s (order_of w p).handed = there_p.handed ∙ ap (λ (s : State). max s.min_s s.handed) at_p in
    let low_is = ap (λ (s : State). s.low) at_k in
    let last_is = ap (λ (s : State). s.last) at_k in
    let ran = moved.ran k (order_of w k).last (omega (arith, low_is, over)) (omega (arith, last_is)) in
    let h = header ran.0 in
    let exec = (moved.followed k).follows.executed ran.0 ran.1 in
    let x : Execution = record { proposal = h; log = exec.0 } in
    let kept = (past k correct).executed x exec.1 in
    let number : h.number ≡ (order_of w k).last = ran.3 in
    elim kept.there [
      | inl low ↦ absurd (omega (arith, low, number, low_k, over))
      | inr told ↦ elim (cases_lt h.view view) [
        | inl earlier ↦
            let backed = (sound.executions k x exec.1).1 in
            let carries : Carries f faulty t h.view h.number h.digest view = carried f faulty moved.steps h.view h.number view h.digest run.few moved.allowed backed in
            elim (past p leads).current [
              | inl zero ↦ absurd (omega (arith, zero, view_p, earlier))
              | inr r ↦ elim (cases_lt r.0.min_s h.number) [
                | inl above ↦
                    let told_r = carries p r.0 leads r.1.entry (r.1.view ∙ view_p) above earlier in
                    let top = ((sound.entered p r.0 r.1.entry).choice.within p view h.number h.digest told_r).1 in
                    let is = r.1.top in
                    omega (arith, top, is, handed_p, number)
                | inr behind ↦ let is = r.1.min_s in omega (arith, behind, is, min_s_p, number)
              ]
            ]
        | inr late ↦
            let early = kept.earlier in
            let same : h.view ≡ view = omega (arith, late, early, view_k) in
            let there : Told (t k).now.log 2 p view h.number h.digest = subst (λ (u : ℕ). Told (t k).now.log 2 (primary f u) u h.number h.digest) same told in
            let here = subst (λ (s : State). Told (known s) 2 p view h.number h.digest) at_k (told_same (known (moved.orders k).state) (t k).now.log there_k.log 2 p view h.number h.digest (omega arith) ∙ there) in
            let before = proposed_before laws f keys start faulty turns view k h.number h.digest run leads entered_p here in
            omega (arith, before, number)
      ]
    ]
