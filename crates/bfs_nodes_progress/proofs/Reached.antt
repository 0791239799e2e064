-- What holds of nodes after every list of calls and deliveries, and of a world of moves that follows them.
use Rattle.std.proofs.Common.{◌≡◌, ℕ, ◌<◌, Bool, false, List, [], ◌∷◌, map, ◌⊎◌, inl, inr, refl, sym, ap, subst, ◌∙◌, arith}
use Rattle.bfs_auth.specs.Keys.{Keys}
use Rattle.bfs_votes.specs.Votes.{Header, says, Told, primary}
use Rattle.bfs_log.specs.Headers.{header}
use Rattle.bfs_log.specs.Logs.{headers}
use Rattle.bfs_messages.specs.Messages.{Batch}
use Rattle.bfs_messages.specs.declared.signed.Signed.{Signed}
use Rattle.bfs_messages.specs.declared.order_messages.OrderMessage.{OrderMessage}
use Rattle.bfs_order.specs.Laws.Calls.{CallsKeepTheReplica, IsKept}
use Rattle.bfs_order.specs.Laws.Calls as order
use Rattle.bfs_order.specs.Laws.Logs.{HasNoLaterView, IsWindowed}
use Rattle.bfs_order.specs.Replica.States.{State, known}
use Rattle.bfs_agreement.specs.Histories.{IsIn, World, FewAreFaulty, HasSaid, WasSent}
use Rattle.bfs_agreement.specs.Moves.{after_steps, new_world}
use Rattle.bfs_agreement.proofs.Public.{Is, Kept, Sound, in_told, moved, run_sound, said_on, start_sound}
use Rattle.bfs_progress.proofs.Public.{HeardVotes, Later, Responds, Speaks, now_later, run_later, then_later}
use Rattle.bfs_node.specs.Proposing.{pending_batch}
use Rattle.bfs_nodes_agree.specs.Orders.Following.{Tracks}
use Rattle.bfs_nodes_agree.specs.Orders.Replicas.{OrderReplica, OrderReplicas, after_order_deed, histories, new_order_replicas, votes_by}
use Rattle.bfs_nodes_agree.specs.Views.Replicas.{ViewDeed, after_view_turns, ordered_deed}
use Rattle.bfs_nodes_agree.specs.Nodes.Premises.{AreAuthentic, AreShared, Comes, IsAuthentic}
use Rattle.bfs_nodes_agree.specs.Nodes.Replicas.{Beginning, Keyring, NodeReplicas, NodeTurn, after_node_turn, after_node_turns, new_node_replicas, turn_of}
use Rattle.bfs_nodes_agree.specs.Nodes.Steps.{NodeStep, Proposes, deeds_of}
use Rattle.bfs_nodes_agree.proofs.Public.{after_deeds, all_turns, AreRight, AreWindowed, at_each, BringAll, called, either_in, grown, grows_there, in_map, IsFollowed, IsHeard, new_followed, new_right, ordered_turns, out_of_map, right_on, stays_kept, step_right, told_in, told_same}
use Rattle.bfs_nodes_progress.specs.Inside.Below.{Below}
use Rattle.bfs_nodes_progress.proofs.Speaking.{Speaking, call_speaks, speaks_same}
use Rattle.bfs_nodes_progress.proofs.Proposing.{proposes_speaks}
use Rattle.bfs_nodes_progress.proofs.Grounds.{IsGround, brought, prepare_answers}
use Rattle.bfs_nodes_progress.proofs.Silent.{AreSilent, quiet_silent, silent_call}

-- PREPAREs have grounds ---------------------------------------------------------------------------------------------------

-- who sent a PREPARE had the primary's PRE-PREPARE
abbrev pub AreGrounded : (f : ℕ) (faulty : ℕ → Bool) → OrderReplicas → Type 0
AreGrounded f faulty v = (k u n : ℕ) (d : List ℕ) → faulty k ≡ false → faulty (primary f u) ≡ false → Told (headers (v k).sent) 3 k u n d → HasSaid (histories v (primary f u)) 2 (primary f u) u n d

-- what a list of deeds sends was sent before, or answers what came
ground_of : CallsKeepTheReplica → (P : Signed OrderMessage → Type 0) (f : ℕ) (deeds : List ViewDeed) (o : OrderReplica) → o.state.f ≡ f → BringAll P o.state deeds
    → (m : Signed OrderMessage) → IsIn m (after_deeds o deeds).sent → (header m).tag ≡ 3 → IsIn m o.sent ⊎ ((p : Signed OrderMessage) × P p × IsGround f (header m) (header p))
ground_of same P f [] o is brings m i three = inl i
ground_of same P f (deed ∷ deeds) o is brings m i three =
    let call = called o.state deed in
    let next = after_order_deed o (ordered_deed o.state deed) in
    elim (ground_of same P f deeds next ((same o.state call).0 ∙ is) brings.1 m i three) [
      | inl j ↦ elim (either_in (votes_by o.state call) o.sent m j) [
        | inl said ↦
            let got = prepare_answers o.state call m said three in
            inr (got.0, brought P o.state call got.0 brings.0 got.1, subst (λ (g : ℕ). IsGround g (header m) (header got.0)) is got.2)
        | inr before ↦ inl before
      ]
      | inr new ↦ inr new
    ]

-- What holds -------------------------------------------------------------------------------------------------------------

pub record Facts (f : ℕ) (faulty : ℕ → Bool) (w : NodeReplicas) (v : OrderReplicas) (t : World) : Type 0 where
  pub right : AreRight f faulty w v
  pub windowed : AreWindowed v
  pub followed : IsFollowed f v t
  pub sound : Sound f faulty t
  pub speaks : (k : ℕ) → faulty k ≡ false → Speaking (v k).state
  pub grounded : AreGrounded f faulty v

module _ (f : ℕ) (faulty : ℕ → Bool) (w : NodeReplicas) (v : OrderReplicas) (t : World) (facts : Facts f faulty w v t) where
  -- what was said is in the world
  said_there : (k x u n : ℕ) (d : List ℕ) → WasSent faulty (histories v) x k u n d → WasSent faulty t x k u n d
  said_there k x u n d sent = said_on faulty (histories v) t (λ j. grows_there (v j) (histories v j) (t j) (facts.followed j).follows) x k u n d sent

  pub told_here : (k x j u n : ℕ) (d : List ℕ) → x < 5 → Told (t k).now.log x j u n d → Told (known (w k).node.order) x j u n d
  told_here k x j u n d small y =
      subst (λ (s : State). Told (known s) x j u n d) (facts.right k).tracks.state (told_same (known (v k).state) (t k).now.log (facts.followed k).follows.state.log x j u n d small ∙ y)

  pub told_world : (k x j u n : ℕ) (d : List ℕ) → x < 5 → Told (known (w k).node.order) x j u n d → Told (t k).now.log x j u n d
  told_world k x j u n d small y =
      sym (told_same (known (v k).state) (t k).now.log (facts.followed k).follows.state.log x j u n d small) ∙ subst (λ (s : State). Told (known s) x j u n d) (sym (facts.right k).tracks.state) y

  heard : HeardVotes f faulty t
  heard = record {
    said = λ i x k u n d small correct y.
        let got = told_in (known (w i).node.order) x k u n d (told_here i x k u n d small y) in
        let from = out_of_map header (w i).node.order.log got.0 got.1 in
        let is = subst (λ (h : Header). Is h x k u n d) from.2 got.2 in
        let tag = is.tag in
        said_there k x u n d (moved (header from.0) x k u n d is (λ x k u n d. WasSent faulty (histories v) x k u n d) (((facts.right i).log from.0 from.1).sent (omega (arith, tag, small)))) correct;
    grounds = λ k u n d correct leads y.
        said_there (primary f u) 2 u n d (λ _. facts.grounded k u n d correct leads ((facts.followed k).follows.sent (says 3 k u n d) ∙ y)) leads;
  }

  world_speaks : (k : ℕ) → faulty k ≡ false → Speaks f k (t k).now.view (t k).now.log
  world_speaks k correct =
      let at = facts.followed k in
      let s = (v k).state in
      let tracks = at.follows.state in
      subst (λ (g : ℕ). Speaks g k (t k).now.view (t k).now.log) at.same_f (subst (λ (j : ℕ). Speaks s.f j (t k).now.view (t k).now.log) at.same_me
      (subst (λ (u : ℕ). Speaks s.f s.me u (t k).now.log) (sym tracks.view) (speaks_same s.f s.me s.view (known s) (t k).now.log tracks.log (facts.speaks k correct))))

  pub responds : Responds f faulty t
  responds = record { sound = facts.sound; heard = heard; speaks = world_speaks }

-- A step ------------------------------------------------------------------------------------------------------------------

deeds_speak : IsKept HasNoLaterView → (deeds : List ViewDeed) (o : OrderReplica) → AreSilent deeds → HasNoLaterView o.state → Speaking o.state → Speaking (after_deeds o deeds).state
deeds_speak views [] o silent later speaks = speaks
deeds_speak views (deed ∷ deeds) o silent later speaks =
    let call = called o.state deed in
    deeds_speak views deeds (after_order_deed o (ordered_deed o.state deed)) silent.1 (views.1 o.state call later) (call_speaks o.state call later (silent_call o.state deed silent.0) speaks)

proposal_speaks : (f : ℕ) (faulty : ℕ → Bool) (w : NodeReplicas) (v : OrderReplicas) (t : World) → 0 < f → FewAreFaulty f faulty → Facts f faulty w v t → (k : ℕ) → faulty k ≡ false
    → (keys : Keys) (batch : Batch) → Speaking (order.outcome (v k).state (order.Proposes keys batch)).now
proposal_speaks f faulty w v t positive few facts k correct keys batch =
    let at = facts.followed k in
    let s = (v k).state in
    let answers = responds f faulty w v t facts in
    let kept : Kept s.f s.me (t s.me) = subst (λ (g : ℕ). Kept g s.me (t s.me)) (sym at.same_f) (subst (λ (j : ℕ). Kept f j (t j)) (sym at.same_me) (facts.sound.kept k correct)) in
    proposes_speaks faulty t s keys batch (subst (λ (g : ℕ). 0 < g) (sym at.same_f) positive) (subst (λ (g : ℕ). FewAreFaulty g faulty) (sym at.same_f) few)
    (subst (λ (j : ℕ). faulty j ≡ false) (sym at.same_me) correct) (subst (λ (g : ℕ). HeardVotes g faulty t) (sym at.same_f) answers.heard) kept
    (subst (λ (j : ℕ). Tracks s (t j).now) (sym at.same_me) at.follows.state) (facts.speaks k correct)

step_speaks : IsKept HasNoLaterView → (f : ℕ) (faulty : ℕ → Bool) (w : NodeReplicas) (v : OrderReplicas) (t : World) → 0 < f → FewAreFaulty f faulty → Facts f faulty w v t → (k : ℕ) → faulty k ≡ false
    → (step : NodeStep) → Speaking (after_deeds (v k) (deeds_of (w k).node step)).state
step_speaks views f faulty w v t positive few facts k correct (Proposes time) = proposal_speaks f faulty w v t positive few facts k correct (w k).node.keys (pending_batch (w k).node time)
step_speaks views f faulty w v t positive few facts k correct step =
    deeds_speak views (deeds_of (w k).node step) (v k) (quiet_silent (w k).node step tt) (facts.right k).later (facts.speaks k correct)

-- where a run leads from there: nodes, orders that do as they do, and a world that follows them
pub record Leads (f : ℕ) (faulty : ℕ → Bool) (from : NodeReplicas) (t : World) (w : NodeReplicas) : Type 0 where
  pub orders : OrderReplicas
  pub world : World
  pub facts : Facts f faulty w orders world
  pub later : Later t world
  pub keys : (k : ℕ) → (w k).node.keys ≡ (from k).node.keys

module _ (laws : Below) (f : ℕ) (faulty : ℕ → Bool) (positive : 0 < f) (few : FewAreFaulty f faulty) where
  -- a step leaves them grounded
  grounded_on : (w : NodeReplicas) (v : OrderReplicas) (t : World) → Facts f faulty w v t → (turn : NodeTurn) → Comes (IsAuthentic faulty w (w turn.who).node.keys) turn.step
      → AreGrounded f faulty (after_view_turns v (map (turn_of turn.who) (deeds_of (w turn.who).node turn.step)))
  grounded_on w v t facts turn comes = at_each (λ k r o. (u n : ℕ) (d : List ℕ) → faulty k ≡ false → faulty (primary f u) ≡ false → Told (headers o.sent) 3 k u n d → HasSaid (histories next (primary f u)) 2 (primary f u) u n d)
      turn w v here (λ k u n d correct leads x. still k u n d leads (facts.grounded k u n d correct leads x))
    where
      who : ℕ
      who = turn.who

      deeds : List ViewDeed
      deeds = deeds_of (w who).node turn.step

      next : OrderReplicas
      next = after_view_turns v (map (turn_of who) deeds)

      still : (k u n : ℕ) (d : List ℕ) → faulty (primary f u) ≡ false → HasSaid (histories v (primary f u)) 2 (primary f u) u n d → HasSaid (histories next (primary f u)) 2 (primary f u) u n d
      still k u n d leads x = said_on faulty (histories v) (histories next) (grown (map (turn_of who) deeds) v) 2 (primary f u) u n d (λ _. x) leads

      Said : Signed OrderMessage → Type 0
      Said p = IsHeard faulty (w who).node.keys (histories next) (after_node_turn w turn) p

      here : (u n : ℕ) (d : List ℕ) → faulty who ≡ false → faulty (primary f u) ≡ false → Told (headers (after_deeds (v who) deeds).sent) 3 who u n d → HasSaid (histories next (primary f u)) 2 (primary f u) u n d
      here u n d correct leads x =
          let got = told_in (headers (after_deeds (v who) deeds).sent) 3 who u n d x in
          let from = out_of_map header (after_deeds (v who) deeds).sent got.0 got.1 in
          let m = from.0 in
          let is = subst (λ (h : Header). Is h 3 who u n d) from.2 got.2 in
          let right = facts.right who in
          let brings = subst (λ (s : State). BringAll Said s deeds) (sym right.tracks.state) (step_right laws.same laws.views laws.written laws.one f faulty w v facts.right turn comes).brings in
          elim (ground_of laws.same Said f deeds (v who) (facts.followed who).same_f brings m from.1 is.tag) [
            | inl before ↦ still who u n d leads (facts.grounded who u n d correct leads
                (moved (header m) 3 who u n d is (λ x k u n d. Told (headers (v who).sent) x k u n d) (in_told (headers (v who).sent) (header m) (in_map header (v who).sent m before))))
            | inr new ↦
                let p = header new.0 in
                let ground = new.2 in
                let two = ground.two in
                let at : Is p 2 (primary f u) u n d = record {
                  tag = two;
                  sender = ground.from ∙ ap (primary f) (ground.view ∙ is.view);
                  view = ground.view ∙ is.view;
                  number = ground.number ∙ is.number;
                  digest = ground.digest ∙ is.digest;
                } in
                moved p 2 (primary f u) u n d at (λ x k u n d. WasSent faulty (histories next) x k u n d) (new.1.sent (omega (arith, two))) leads
          ]

  -- a node keeps its keys
  keys_on : (w : NodeReplicas) (v : OrderReplicas) (t : World) → Facts f faulty w v t → (turn : NodeTurn) → Comes (IsAuthentic faulty w (w turn.who).node.keys) turn.step
      → (k : ℕ) → (after_node_turn w turn k).node.keys ≡ (w k).node.keys
  keys_on w v t facts turn comes = at_each (λ k r o. r.node.keys ≡ (w k).node.keys) turn w v (step_right laws.same laws.views laws.written laws.one f faulty w v facts.right turn comes).keys (λ k. refl)

  pub step_on : (w : NodeReplicas) (v : OrderReplicas) (t : World) → Facts f faulty w v t → (turn : NodeTurn) → Comes (IsAuthentic faulty w (w turn.who).node.keys) turn.step
      → Leads f faulty w t (after_node_turn w turn)
  step_on w v t facts turn comes =
      let deeds = deeds_of (w turn.who).node turn.step in
      let list = map (turn_of turn.who) deeds in
      let may = (step_right laws.same laws.views laws.written laws.one f faulty w v facts.right turn comes).may in
      let ordered = ordered_turns faulty laws.windows laws.made laws.valid list v facts.windowed may in
      let moves = all_turns f faulty laws.moved laws.same ordered.0 v t facts.followed ordered.1 in
      record {
        orders = after_view_turns v list;
        world = after_steps f t moves.0;
        facts = record {
          right = right_on laws.same laws.views laws.written laws.one f faulty w v facts.right turn comes;
          windowed = at_each (λ k r o. IsWindowed o.state) turn w v (stays_kept IsWindowed laws.windows.1 deeds (v turn.who) (facts.windowed turn.who)) facts.windowed;
          followed = subst (λ (x : OrderReplicas). IsFollowed f x (after_steps f t moves.0)) ordered.2 moves.2;
          sound = run_sound f faulty t moves.0 facts.sound moves.1;
          speaks = at_each (λ k r o. faulty k ≡ false → Speaking o.state) turn w v (λ correct. step_speaks laws.views f faulty w v t positive few facts turn.who correct turn.step) facts.speaks;
          grounded = grounded_on w v t facts turn comes;
        };
        later = run_later f faulty t moves.0 moves.1;
        keys = keys_on w v t facts turn comes;
      }

  pub run_on : (w : NodeReplicas) (v : OrderReplicas) (t : World) → Facts f faulty w v t → (turns : List NodeTurn) → AreAuthentic faulty w turns → Leads f faulty w t (after_node_turns w turns)
  run_on w v t facts [] comes = record { orders = v; world = t; facts = facts; later = λ k. now_later (t k).now; keys = λ k. refl }
  run_on w v t facts (turn ∷ turns) comes =
      let first = step_on w v t facts turn comes.0 in
      let rest = run_on (after_node_turn w turn) first.orders first.world first.facts turns comes.1 in
      record {
        orders = rest.orders;
        world = rest.world;
        facts = rest.facts;
        later = then_later t first.world rest.world first.later rest.later;
        keys = λ k. rest.keys k ∙ first.keys k;
      }

  -- at the beginning
  pub start_facts : (keys : Keyring) (start : Beginning) → AreShared f keys → Facts f faulty (new_node_replicas f keys start) (new_order_replicas f) new_world
  start_facts keys start shared = record {
    right = new_right laws.same laws.views laws.written laws.one f faulty keys start shared;
    windowed = λ k. laws.windows.0 f k;
    followed = new_followed f;
    sound = start_sound f faulty;
    speaks = λ k correct. record { prepares = λ n d backup x. absurd cc; commits = λ n d ready. absurd cc };
    grounded = λ k u n d correct leads x. absurd cc;
  }

  pub always : (keys : Keyring) (start : Beginning) (turns : List NodeTurn) → AreShared f keys → AreAuthentic faulty (new_node_replicas f keys start) turns
      → Leads f faulty (new_node_replicas f keys start) new_world (after_node_turns (new_node_replicas f keys start) turns)
  always keys start turns shared comes = run_on (new_node_replicas f keys start) (new_order_replicas f) new_world (start_facts keys start shared) turns comes
