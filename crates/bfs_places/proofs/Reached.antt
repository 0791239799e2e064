-- What holds of nodes after every list of calls and deliveries, and of a world of moves that follows them.
use Rattle.std.proofs.Common.{ℕ, Bool, List, [], ◌∷◌, None, map, sym, subst, arith}
use Rattle.std.proofs.lemmas.List.{length-replicate}
use Rattle.bfs_votes.specs.Votes.{replicas}
use Rattle.bfs_codec.specs.Laws.{MessageWasWritten, OneBatch}
use Rattle.bfs_order.specs.Laws.Calls.{CallsKeepTheReplica, IsKept}
use Rattle.bfs_order.specs.Laws.Logs.{HasNoLaterView, IsWindowed}
use Rattle.bfs_order.specs.Replica.States.{State}
use Rattle.bfs_agreement.specs.Histories.{World}
use Rattle.bfs_agreement.specs.Moves.{after_steps, new_world}
use Rattle.bfs_agreement.proofs.Public.{Sound, run_sound, start_sound}
use Rattle.bfs_nodes_agree.specs.Orders.Laws.{DeedsAreMoves}
use Rattle.bfs_nodes_agree.specs.Orders.Replicas.{OrderReplicas, new_order_replicas}
use Rattle.bfs_nodes_agree.specs.Views.Laws.{MadeTellsWhatIsPrepared, RightNewViewsAreValid}
use Rattle.bfs_nodes_agree.specs.Views.Replicas.{after_view_turns}
use Rattle.bfs_nodes_agree.specs.Nodes.Premises.{AreAuthentic, AreShared, Comes, IsAuthentic}
use Rattle.bfs_nodes_agree.specs.Nodes.Replicas.{Beginning, Keyring, NodeReplicas, NodeTurn, after_node_turn, after_node_turns, new_node_replicas, turn_of}
use Rattle.bfs_nodes_agree.specs.Nodes.Steps.{deeds_of}
use Rattle.bfs_nodes_agree.proofs.Public.{AllIn, all_turns, AreKept, AreRight, AreWindowed, at_each, both_at, BringAll, IsBounded, IsFollowed, new_followed, new_right, none_in, none_kept, ordered_turns, right_on, stays_kept, step_right}
use Rattle.bfs_places.proofs.Coming.{step_brings, step_kept}
use Rattle.bfs_places.proofs.Numbers.{IsLow, IsNumbered}
use Rattle.bfs_places.proofs.Once.{Once, once_on}
use Rattle.bfs_places.proofs.Senders.{IsKinded, Knows, deeds_known}

-- laws of the crates below
pub record Below : Type 0 where
  pub same : CallsKeepTheReplica
  pub views : IsKept HasNoLaterView
  pub windows : IsKept IsWindowed
  pub written : MessageWasWritten
  pub one : OneBatch
  pub moved : DeedsAreMoves
  pub made : MadeTellsWhatIsPrepared
  pub valid : RightNewViewsAreValid

pub record Facts (f : ℕ) (faulty : ℕ → Bool) (w : NodeReplicas) (v : OrderReplicas) (t : World) : Type 0 where
  pub right : AreRight f faulty w v
  pub windowed : AreWindowed v
  pub followed : IsFollowed f v t
  pub sound : Sound f faulty t
  pub knows : (k : ℕ) → Knows f (v k)
  pub kept : (k : ℕ) → AreKept IsLow f (w k).node.changes
  pub once : (k : ℕ) → Once (w k)

-- orders that do as nodes do, and a world that follows them
pub record Known (f : ℕ) (faulty : ℕ → Bool) (w : NodeReplicas) : Type 0 where
  pub orders : OrderReplicas
  pub world : World
  pub facts : Facts f faulty w orders world

module _ (laws : Below) (f : ℕ) (faulty : ℕ → Bool) where
  step_on : (w : NodeReplicas) (v : OrderReplicas) (t : World) → Facts f faulty w v t → (turn : NodeTurn) → Comes (IsAuthentic faulty w (w turn.who).node.keys) turn.step → Known f faulty (after_node_turn w turn)
  step_on w v t facts turn comes =
      let who = turn.who in
      let deeds = deeds_of (w who).node turn.step in
      let list = map (turn_of who) deeds in
      let may = (step_right laws.same laws.views laws.written laws.one f faulty w v facts.right turn comes).may in
      let ordered = ordered_turns faulty laws.windows laws.made laws.valid list v facts.windowed may in
      let moves = all_turns f faulty laws.moved laws.same ordered.0 v t facts.followed ordered.1 in
      let at = (facts.right who).tracks.state in
      let bounded = subst IsBounded at (facts.right who).bounded in
      let log = subst (λ (s : State). AllIn IsNumbered s.log) at (facts.knows who).log in
      let authentic = IsAuthentic faulty w (w who).node.keys in
      let brings = step_brings f authentic (w who).node bounded log (facts.kept who) turn.step comes in
      record {
        orders = after_view_turns v list;
        world = after_steps f t moves.0;
        facts = record {
          right = right_on laws.same laws.views laws.written laws.one f faulty w v facts.right turn comes;
          windowed = at_each (λ k r o. IsWindowed o.state) turn w v (stays_kept IsWindowed laws.windows.1 deeds (v who) (facts.windowed who)) facts.windowed;
          followed = subst (λ (x : OrderReplicas). IsFollowed f x (after_steps f t moves.0)) ordered.2 moves.2;
          sound = run_sound f faulty t moves.0 facts.sound moves.1;
          knows = at_each (λ k r o. Knows f o) turn w v
              (deeds_known laws.same f deeds (v who) (facts.followed who).same_f (facts.knows who) (subst (λ (s : State). BringAll IsNumbered s deeds) (sym at) brings)) facts.knows;
          kept = both_at w turn (λ k r. AreKept IsLow f r.node.changes) (step_kept f authentic (w who).node turn.step comes log (facts.kept who)) facts.kept;
          once = both_at w turn (λ k r. Once r) (once_on laws.same (w who) turn.step bounded (facts.once who)) facts.once;
        };
      }

  run_on : (w : NodeReplicas) (v : OrderReplicas) (t : World) → Facts f faulty w v t → (turns : List NodeTurn) → AreAuthentic faulty w turns → Known f faulty (after_node_turns w turns)
  run_on w v t facts [] comes = record { orders = v; world = t; facts = facts }
  run_on w v t facts (turn ∷ turns) comes = let first = step_on w v t facts turn comes.0 in run_on (after_node_turn w turn) first.orders first.world first.facts turns comes.1

  pub always : (keys : Keyring) (start : Beginning) (turns : List NodeTurn) → AreShared f keys → AreAuthentic faulty (new_node_replicas f keys start) turns → Known f faulty (after_node_turns (new_node_replicas f keys start) turns)
  always keys start turns shared comes = run_on (new_node_replicas f keys start) (new_order_replicas f) new_world
      (record {
        right = new_right laws.same laws.views laws.written laws.one f faulty keys start shared;
        windowed = λ k. laws.windows.0 f k;
        followed = new_followed f;
        sound = start_sound f faulty;
        knows = λ k. record { view = omega arith; log = none_in IsNumbered; sent = none_in (IsKinded f); offers = none_in IsNumbered };
        kept = λ k. (length-replicate (replicas f) None, none_kept IsLow 0 (replicas f));
        once = λ k. record { spent = λ s place i is lone. absurd i; one = λ s t place i j is also lone. absurd i };
      }) turns comes
