-- What any turns leave: views, marks and what is asked for don't fall, and a log keeps what lies above its low mark.
use Rattle.std.proofs.Common.{◌≡◌, ℕ, ◌<◌, ◌≤◌, Bool, List, [], ◌∷◌, refl, ◌∙◌, arith}
use Rattle.bfs_votes.specs.Votes.{Header, Told}
use Rattle.bfs_agreement.specs.Histories.{State, History, World}
use Rattle.bfs_agreement.specs.Moves.{Move, Accepts, Says, Drops, Leaves, Enters, Executes, after_move, IsAllowed, Step, after_step, after_steps, AreAllowed}
use Rattle.bfs_agreement.specs.Calls.{moves_of, HeaderTurn, steps_of, after_header_turn, after_header_turns, AreAuthentic}
use Rattle.bfs_agreement.proofs.Public.{allowed, told_more, told_kept, log_stays, at_each}

pub record LaterAt (p q : State) : Type 0 where
  pub view : p.view ≤ q.view
  pub asked : p.asked ≤ q.asked
  pub low : p.low ≤ q.low
  pub min_s : p.view ≡ q.view → p.min_s ≡ q.min_s
  pub log : (t k v n : ℕ) (d : List ℕ) → q.low < n → Told p.log t k v n d → Told q.log t k v n d

abbrev pub Later : World → World → Type 0
Later w new = (k : ℕ) → LaterAt (w k).now (new k).now

pub now_later : (p : State) → LaterAt p p
now_later p = record { view = omega arith; asked = omega arith; low = omega arith; min_s = λ _. refl; log = λ t k v n d above x. x }

told_later : (p : State) (h : Header) → LaterAt p (record p { log = h ∷ p.log })
told_later p h = record { view = omega arith; asked = omega arith; low = omega arith; min_s = λ _. refl; log = λ t k v n d above x. told_more h p.log t k v n d x }

pub then_later : (w w1 w2 : World) → Later w w1 → Later w1 w2 → Later w w2
then_later w w1 w2 one two k =
    let a = one k in
    let b = two k in
    let view_a = a.view in
    let view_b = b.view in
    let asked_a = a.asked in
    let asked_b = b.asked in
    let low_a = a.low in
    let low_b = b.low in
    record {
      view = omega (arith, view_a, view_b);
      asked = omega (arith, asked_a, asked_b);
      low = omega (arith, low_a, low_b);
      min_s = λ e. a.min_s (omega (arith, e, view_a, view_b)) ∙ b.min_s (omega (arith, e, view_a, view_b));
      log = λ t j v n d above x. b.log t j v n d above (a.log t j v n d (omega (arith, low_b, above)) x);
    }

move_later : (f me : ℕ) (faulty : ℕ → Bool) (w : World) (p : History) (move : Move) → IsAllowed f faulty w me p move → LaterAt p.now (after_move f me p move).now
move_later f me faulty w p (Accepts h) may = told_later p.now h
move_later f me faulty w p (Says h) may = told_later p.now h
move_later f me faulty w p (Drops m) may =
    record { view = omega arith; asked = omega arith; low = omega (arith, may); min_s = λ _. refl; log = λ t k v n d above x. told_kept m p.now.log t k v n d above x }
move_later f me faulty w p (Leaves m) may =
    let lt = may.asked in
    record { view = omega arith; asked = omega (arith, lt); low = omega arith; min_s = λ _. refl; log = λ t k v n d above x. x }
move_later f me faulty w p (Enters r) may =
    let lt = may.above in
    let le = may.asked in
    record {
      view = omega (arith, lt);
      asked = omega (arith, le);
      low = omega arith;
      min_s = λ e. absurd (omega (arith, lt, e));
      log = λ t k v n d above x. log_stays p.now.low r.proposals p.now.log t k v n d x;
    }
move_later f me faulty w p (Executes h) may = now_later p.now

pub run_later : (f : ℕ) (faulty : ℕ → Bool) (w : World) (steps : List Step) → AreAllowed f faulty w steps → Later w (after_steps f w steps)
run_later f faulty w [] all = λ k. now_later (w k).now
run_later f faulty w (step ∷ steps) all =
    let i = step.who in
    then_later w (after_step f w step) (after_steps f (after_step f w step) steps)
    (at_each (λ k p. LaterAt (w k).now p.now) w i (after_move f i (w i) step.move) (move_later f i faulty w (w i) step.move all.0) (λ k. now_later (w k).now))
    (run_later f faulty (after_step f w step) steps all.1)

pub turn_later : (f : ℕ) (null : List ℕ) (faulty : ℕ → Bool) (w : World) (turn : HeaderTurn) → AreAuthentic f null faulty w (turn ∷ []) → Later w (after_header_turn f null w turn)
turn_later f null faulty w turn authentic =
    run_later f faulty w (steps_of turn.who (moves_of f null turn.who (w turn.who).now turn.call)) (allowed f null faulty w turn.who turn.call authentic.0)

pub turns_later : (f : ℕ) (null : List ℕ) (faulty : ℕ → Bool) (w : World) (turns : List HeaderTurn) → AreAuthentic f null faulty w turns → Later w (after_header_turns f null w turns)
turns_later f null faulty w [] authentic = λ k. now_later (w k).now
turns_later f null faulty w (turn ∷ turns) authentic =
    then_later w (after_header_turn f null w turn) (after_header_turns f null (after_header_turn f null w turn) turns) (turn_later f null faulty w turn (authentic.0, tt))
    (turns_later f null faulty (after_header_turn f null w turn) turns authentic.1)
