-- States at equal numbers are equal.
use Rattle.std.proofs.Common.{◌≡◌, ℕ, zero, suc, ◌==◌, Bool, true, false, ◌&&◌, ◌||◌, cond, List, [], ◌∷◌, bytes_eq, inl, inr, refl, sym, ap, ap₂, subst, ◌∙◌}
use mathlib.Core.Path.{fun_ext}
use Rattle.std.proofs.lemmas.Bool.{and_parts, or_cases, cond_both, eqb-true, eqb-false}
use Rattle.std.proofs.lemmas.Slice.Eq.{bytes_eq-Decides}
use Rattle.bfs_votes.specs.Laws.{QuorumsMeet}
use Rattle.bfs_votes.specs.Votes.{Header}
use Rattle.bfs_agreement.specs.Histories.{IsIn, Executed, History, World}
use Rattle.bfs_agreement.specs.Moves.{Move, Accepts, Says, Drops, Leaves, Enters, Executes, after_move, with_history, after_steps}
use Rattle.bfs_agreement.specs.Calls.{moves_of, steps_of}
use Rattle.bfs_agreement.specs.Nodes.{Checkpoint, has_checkpoint, after_moves, Service, Snapshot, ServiceNode, ServiceNodes, histories, ServiceCall, Calls, Continues, Reports, Adopts, after_service_call, MayAdopt, MayCallService, ServiceTurn, with_node, after_service_turns, MayTakeServiceTurns, new_nodes, ComesOfBatches}
use Rattle.bfs_agreement.specs.Laws.{StatesAgree}
use Rattle.bfs_agreement.proofs.Counts.{QuorumsShare, quorums_share}
use Rattle.bfs_agreement.proofs.Carried.{told_good}
use Rattle.bfs_agreement.proofs.Worlds.{Sound, sound_after, run_sound, start_sound, same_executed}
use Rattle.bfs_agreement.proofs.Calls.{allowed, here_itself}

-- a checkpoint that the test finds
checkpoint_of : (cs : List Checkpoint) (n : ℕ) (d : List ℕ) → has_checkpoint cs n d ≡ true → (c : Checkpoint) × IsIn c cs × (c.number ≡ n) × (c.digest ≡ d)
checkpoint_of [] n d e = absurd cc
checkpoint_of (c ∷ cs) n d e = elim (or_cases ((c.number == n) && bytes_eq c.digest d) (has_checkpoint cs n d) e) [
  | inl a ↦ let b = and_parts (c.number == n) (bytes_eq c.digest d) a in (c, inl refl, eqb-true c.number n b.0, (bytes_eq-Decides c.digest d).0 b.1)
  | inr a ↦ let got = checkpoint_of cs n d a in (got.0, inr got.1, got.2, got.3)
]

-- a list of moves of one replica changes that replica alone
at_at : (w : World) (i : ℕ) (p q : History) → with_history (with_history w i p) i q ≡ with_history w i q
at_at w i p q = fun_ext (λ j. over (j == i) p q (w j))
  where
    over : (b : Bool) (p q r : History) → cond b q (cond b p r) ≡ cond b q r
    over true p q r = refl
    over false p q r = refl

at_own : (w : World) (i : ℕ) → with_history w i (w i) ≡ w
at_own w i = fun_ext (λ j. cond_both (j == i) (w i) (w j) (λ (p : History). p ≡ w j) (λ e. ap w (sym (eqb-true j i e))) (λ _. refl))

pub run_at : (f : ℕ) (w : World) (i : ℕ) (moves : List Move) → after_steps f w (steps_of i moves) ≡ with_history w i (after_moves f i (w i) moves)
run_at f w i [] = sym (at_own w i)
run_at f w i (move ∷ moves) =
    let p = after_move f i (w i) move in
    run_at f (with_history w i p) i moves ∙ ap (λ (q : History). with_history (with_history w i p) i (after_moves f i q moves)) (here_itself w i p) ∙ at_at w i p (after_moves f i p moves)

module _ (service : Service) where
  past_cond : (b : Bool) (m n : ServiceNode) → (cond b m n).history ≡ cond b m.history n.history
  past_cond true m n = refl
  past_cond false m n = refl

  pasts_put : (w : ServiceNodes) (i : ℕ) (node : ServiceNode) → histories (with_node w i node) ≡ with_history (histories w) i node.history
  pasts_put w i node = fun_ext (λ j. past_cond (j == i) node (w j))

  at_same : (w : ServiceNodes) (i : ℕ) → with_history (histories w) i (w i).history ≡ histories w
  at_same w i = fun_ext (λ j. cond_both (j == i) (w i).history (w j).history (λ (p : History). p ≡ (w j).history) (λ e. ap (λ (k : ℕ). (w k).history) (sym (eqb-true j i e))) (λ _. refl))

  put_each : (P : ℕ → ServiceNode → Type 0) (w : ServiceNodes) (i : ℕ) (node : ServiceNode) → P i node → ((j : ℕ) → P j (w j)) → (j : ℕ) → P j (with_node w i node j)
  put_each P w i node here all j = cond_both (j == i) node (w j) (P j) (λ e. subst (λ (k : ℕ). P k node) (sym (eqb-true j i e)) here) (λ e. all j)

  -- what was executed stays so
  ran_on : (f me : ℕ) (p : History) (move : Move) (h : Header) → Executed p h → Executed (after_move f me p move) h
  ran_on f me p (Accepts g) h x = x
  ran_on f me p (Says g) h x = x
  ran_on f me p (Drops m) h x = x
  ran_on f me p (Leaves m) h x = x
  ran_on f me p (Enters r) h x = x
  ran_on f me p (Executes g) h x = (x.0, inr x.1)

  acted_on : (f me : ℕ) (p : History) (moves : List Move) (h : Header) → Executed p h → Executed (after_moves f me p moves) h
  acted_on f me p [] h x = x
  acted_on f me p (move ∷ moves) h x = acted_on f me (after_move f me p move) moves h (ran_on f me p move h x)

  done_on : (f : ℕ) (null : List ℕ) (me : ℕ) (node : ServiceNode) (call : ServiceCall) (h : Header) → Executed node.history h → Executed (after_service_call service f null me node call).history h
  done_on f null me node (Calls call) h x = acted_on f me node.history (moves_of f null me node.history.now call) h x
  done_on f null me node (Continues g) h x = ran_on f me node.history (Executes g) h x
  done_on f null me node Reports h x = x
  done_on f null me node (Adopts snapshot) h x = x

  comes_on : (w new : ServiceNodes) → ((i : ℕ) (h : Header) → Executed (w i).history h → Executed (new i).history h) → (n : ℕ) (s : List ℕ) → ComesOfBatches service w n s → ComesOfBatches service new n s
  comes_on w new on zero s c = c
  comes_on w new on (suc n) s c = (c.0, c.1, c.2, comes_on w new on n c.0 c.3, on c.1 c.2 c.4, c.5, c.6)

  pub one_state : (f : ℕ) (faulty : ℕ → Bool) (w : ServiceNodes) → QuorumsShare f faulty → Sound f faulty (histories w)
      → (n : ℕ) (s t : List ℕ) → ComesOfBatches service w n s → ComesOfBatches service w n t → s ≡ t
  one_state f faulty w few sound zero s t a b = a ∙ sym b
  one_state f faulty w few sound (suc n) s t a b =
      let below = one_state f faulty w few sound n a.0 b.0 a.3 b.3 in
      let same = same_executed f faulty (histories w) few sound a.1 b.1 a.2 b.2 a.4 b.4 (a.5 ∙ sym b.5) in
      a.6 ∙ ap₂ service.next below same ∙ sym b.6

  pub record Right (f : ℕ) (faulty : ℕ → Bool) (w : ServiceNodes) : Type 0 where
    pub sound : Sound f faulty (histories w)
    pub comes : (i n : ℕ) (s : List ℕ) → IsIn (record { number = n; state = s }) (w i).reached → ComesOfBatches service w n s
    pub here : (i : ℕ) → IsIn (w i).here (w i).reached
    pub checked : (k : ℕ) (c : Checkpoint) → IsIn c (w k).checkpoints → (s : List ℕ) × IsIn (record { number = c.number; state = s }) (w k).reached × (service.hash s ≡ c.digest)

  sound_done : (f : ℕ) (null : List ℕ) (faulty : ℕ → Bool) (w : ServiceNodes) (i : ℕ) (call : ServiceCall) → Sound f faulty (histories w) → MayCallService service f faulty w i (w i) call
      → Sound f faulty (with_history (histories w) i (after_service_call service f null i (w i) call).history)
  sound_done f null faulty w i (Calls call) sound may =
      let p = histories w in
      let moves = moves_of f null i (w i).history.now call in
      subst (λ (x : World). Sound f faulty x) (run_at f p i moves) (run_sound f faulty p (steps_of i moves) sound (allowed f null faulty p i call may))
  sound_done f null faulty w i (Continues h) sound may = sound_after f faulty (histories w) (record { who = i; move = Executes h }) sound may.0
  sound_done f null faulty w i Reports sound may = subst (λ (x : World). Sound f faulty x) (sym (at_same w i)) sound
  sound_done f null faulty w i (Adopts snapshot) sound may = subst (λ (x : World). Sound f faulty x) (sym (at_same w i)) sound

  -- the adopted state is that of a correct replica at its number
  adopted : (f : ℕ) (faulty : ℕ → Bool) (w : ServiceNodes) (i : ℕ) (snapshot : Snapshot) → QuorumsShare f faulty → Right f faulty w → MayAdopt service f faulty w snapshot
      → ComesOfBatches service w snapshot.number snapshot.state
  adopted f faulty w i snapshot few right may =
      let p = λ (k : ℕ). faulty k || has_checkpoint (w k).checkpoints snapshot.number (service.hash snapshot.state) in
      let got = few p p may.stable may.stable in
      let k = got.0 in
      let c = checkpoint_of (w k).checkpoints snapshot.number (service.hash snapshot.state) (told_good (faulty k) (has_checkpoint (w k).checkpoints snapshot.number (service.hash snapshot.state)) got.4 got.2) in
      let at_k = right.checked k c.0 c.1 in
      let there = subst (λ (n : ℕ). IsIn (record { number = n; state = at_k.0 }) (w k).reached) c.2 at_k.1 in
      let same = may.no_collision k at_k.0 got.4 there (sym (at_k.2 ∙ c.3)) in
      subst (λ (s : List ℕ). ComesOfBatches service w snapshot.number s) (sym same) (right.comes k snapshot.number at_k.0 there)

  -- each snapshot of the replica that moves
  comes_done : (f : ℕ) (null : List ℕ) (faulty : ℕ → Bool) (w new : ServiceNodes) (i : ℕ) (call : ServiceCall) → QuorumsShare f faulty → Right f faulty w → MayCallService service f faulty w i (w i) call
      → ((j : ℕ) (h : Header) → Executed (w j).history h → Executed (new j).history h) → new i ≡ after_service_call service f null i (w i) call
      → (n : ℕ) (s : List ℕ) → IsIn (record { number = n; state = s }) (after_service_call service f null i (w i) call).reached → ComesOfBatches service new n s
  comes_done f null faulty w new i (Calls call) few right may on at_i n s x = comes_on w new on n s (right.comes i n s x)
  comes_done f null faulty w new i (Continues h) few right may on at_i n s x = elim x [
    | inl e ↦
        let here = (w i).here in
        let now : Executed (new i).history h = subst (λ (node : ServiceNode). Executed node.history h) (sym at_i) ((w i).history.now.log, inl refl) in
        let before = comes_on w new on here.number here.state (right.comes i here.number here.state (right.here i)) in
        let whole : ComesOfBatches service new (suc here.number) (service.next here.state h.digest) = (here.state, i, h, before, now, may.1, refl) in
        subst (λ (p : Snapshot). ComesOfBatches service new p.number p.state) (sym e) whole
    | inr y ↦ comes_on w new on n s (right.comes i n s y)
  ]
  comes_done f null faulty w new i Reports few right may on at_i n s x = comes_on w new on n s (right.comes i n s x)
  comes_done f null faulty w new i (Adopts snapshot) few right may on at_i n s x = elim x [
    | inl e ↦ subst (λ (p : Snapshot). ComesOfBatches service new p.number p.state) (sym e) (comes_on w new on snapshot.number snapshot.state (adopted f faulty w i snapshot few right may))
    | inr y ↦ comes_on w new on n s (right.comes i n s y)
  ]

  here_done : (f : ℕ) (null : List ℕ) (me : ℕ) (node : ServiceNode) (call : ServiceCall) → IsIn node.here node.reached → IsIn (after_service_call service f null me node call).here (after_service_call service f null me node call).reached
  here_done f null me node (Calls call) x = x
  here_done f null me node (Continues h) x = inl refl
  here_done f null me node Reports x = x
  here_done f null me node (Adopts snapshot) x = inl refl

  checked_done : (f : ℕ) (null : List ℕ) (me : ℕ) (node : ServiceNode) (call : ServiceCall) → IsIn node.here node.reached
      → ((c : Checkpoint) → IsIn c node.checkpoints → (s : List ℕ) × IsIn (record { number = c.number; state = s }) node.reached × (service.hash s ≡ c.digest))
      → (c : Checkpoint) → IsIn c (after_service_call service f null me node call).checkpoints → (s : List ℕ) × IsIn (record { number = c.number; state = s }) (after_service_call service f null me node call).reached × (service.hash s ≡ c.digest)
  checked_done f null me node (Calls call) here all c x = all c x
  checked_done f null me node (Continues h) here all c x = let got = all c x in (got.0, inr got.1, got.2)
  checked_done f null me node Reports here all c x = elim x [
    | inl e ↦ subst (λ (y : Checkpoint). (s : List ℕ) × IsIn (record { number = y.number; state = s }) node.reached × (service.hash s ≡ y.digest)) (sym e) (node.here.state, here, refl)
    | inr y ↦ all c y
  ]
  checked_done f null me node (Adopts snapshot) here all c x = let got = all c x in (got.0, inr got.1, got.2)

  put_itself : (w : ServiceNodes) (i : ℕ) (node : ServiceNode) → with_node w i node i ≡ node
  put_itself w i node = cond_both (i == i) node (w i) (λ (x : ServiceNode). x ≡ node) (λ _. refl) (λ e. absurd (eqb-false i i e refl))

  right_done : (f : ℕ) (null : List ℕ) (faulty : ℕ → Bool) (w : ServiceNodes) (i : ℕ) (call : ServiceCall) → QuorumsShare f faulty → Right f faulty w → MayCallService service f faulty w i (w i) call
      → Right f faulty (with_node w i (after_service_call service f null i (w i) call))
  right_done f null faulty w i call few right may =
      let node = after_service_call service f null i (w i) call in
      let new = with_node w i node in
      let on = put_each (λ j q. (h : Header) → Executed (w j).history h → Executed q.history h) w i node (λ h x. done_on f null i (w i) call h x) (λ j h x. x) in
      record {
        sound = subst (λ (x : World). Sound f faulty x) (sym (pasts_put w i node)) (sound_done f null faulty w i call right.sound may);
        comes = put_each (λ j q. (n : ℕ) (s : List ℕ) → IsIn (record { number = n; state = s }) q.reached → ComesOfBatches service new n s) w i node
            (λ n s x. comes_done f null faulty w new i call few right may on (put_itself w i node) n s x)
            (λ j n s x. comes_on w new on n s (right.comes j n s x));
        here = put_each (λ j q. IsIn q.here q.reached) w i node (here_done f null i (w i) call (right.here i)) right.here;
        checked = put_each (λ j q. (c : Checkpoint) → IsIn c q.checkpoints → (s : List ℕ) × IsIn (record { number = c.number; state = s }) q.reached × (service.hash s ≡ c.digest)) w i node
            (checked_done f null i (w i) call (right.here i) (right.checked i)) right.checked;
      }

  start_right : (f : ℕ) (faulty : ℕ → Bool) → Right f faulty (new_nodes service)
  start_right f faulty =
      record {
        sound = start_sound f faulty;
        comes = λ i n s x. elim x [ inl e ↦ subst (λ (p : Snapshot). ComesOfBatches service (new_nodes service) p.number p.state) (sym e) refl | inr y ↦ absurd y ];
        here = λ i. inl refl;
        checked = λ k c x. absurd x;
      }

  all_right : (f : ℕ) (null : List ℕ) (faulty : ℕ → Bool) (w : ServiceNodes) (list : List (ServiceTurn)) → QuorumsShare f faulty → Right f faulty w → MayTakeServiceTurns service f null faulty w list → Right f faulty (after_service_turns service f null w list)
  all_right f null faulty w [] few right all = right
  all_right f null faulty w (turn ∷ list) few right all =
      all_right f null faulty (with_node w turn.who (after_service_call service f null turn.who (w turn.who) turn.call)) list few (right_done f null faulty w turn.who turn.call few right all.0) all.1

  pub all_states : (f : ℕ) (null : List ℕ) (faulty : ℕ → Bool) (list : List (ServiceTurn)) (i j n : ℕ) (s t : List ℕ) → QuorumsShare f faulty → MayTakeServiceTurns service f null faulty (new_nodes service) list
      → IsIn (record { number = n; state = s }) (after_service_turns service f null (new_nodes service) list i).reached
      → IsIn (record { number = n; state = t }) (after_service_turns service f null (new_nodes service) list j).reached
      → (s ≡ t) × ComesOfBatches service (after_service_turns service f null (new_nodes service) list) n s
  all_states f null faulty list i j n s t few all x y =
      let right = all_right f null faulty (new_nodes service) list few (start_right f faulty) all in
      (one_state f faulty (after_service_turns service f null (new_nodes service) list) few right.sound n s t (right.comes i n s x) (right.comes j n t y), right.comes i n s x)

pub states_agree : QuorumsMeet → StatesAgree
states_agree meet service f null faulty turns few all i j n s t x y = all_states service f null faulty turns i j n s t (quorums_share meet f faulty few) all x y
