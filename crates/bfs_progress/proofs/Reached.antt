-- What holds in every world of calls and deliveries.
use Rattle.std.proofs.Common.{◌≡◌, ℕ, ◌<◌, Bool, false, List, [], ◌∷◌, inl, inr, refl, sym, subst}
use Rattle.bfs_agreement.specs.Histories.{IsIn, ViewChange, World, FewAreFaulty}
use Rattle.bfs_agreement.specs.Moves.{new_world}
use Rattle.bfs_agreement.specs.Calls.{moves_of, IsAuthentic, HeaderTurn, steps_of, after_header_turn, after_header_turns, AreAuthentic}
use Rattle.bfs_agreement.proofs.Public.{allowed, run_at, Sound, start_sound, run_sound, at_each}
use Rattle.bfs_progress.specs.Premises.{IsOffered, AreOffered, IsARun, reached}
use Rattle.bfs_progress.proofs.Turns.{after_call}
use Rattle.bfs_progress.proofs.Heard.{Heard, HeardVotes, votes_of, start_heard, run_heard, calls_offered}
use Rattle.bfs_progress.proofs.Answered.{SpeaksNow, call_speaks}
use Rattle.bfs_progress.proofs.High.{LogHigh, run_high}
use Rattle.bfs_progress.proofs.Changes.{IsGood, good_on, HasTold, call_tells, made_now}

pub record Facts (f : ℕ) (faulty : ℕ → Bool) (w : World) : Type 0 where
  pub sound : Sound f faulty w
  pub heard : Heard f faulty w
  pub speaks : (k : ℕ) → faulty k ≡ false → SpeaksNow f k (w k)
  pub high : (k : ℕ) → LogHigh (w k)
  pub good : (k : ℕ) (m : ViewChange) → faulty k ≡ false → IsIn m (w k).changes → IsGood f faulty w k m
  pub told : (k : ℕ) → faulty k ≡ false → HasTold (w k)

-- of it, what laws in a view ask
pub record Responds (f : ℕ) (faulty : ℕ → Bool) (w : World) : Type 0 where
  pub sound : Sound f faulty w
  pub heard : HeardVotes f faulty w
  pub speaks : (k : ℕ) → faulty k ≡ false → SpeaksNow f k (w k)

pub responds : (f : ℕ) (faulty : ℕ → Bool) (w : World) → Facts f faulty w → Responds f faulty w
responds f faulty w facts = record { sound = facts.sound; heard = votes_of f faulty w facts.heard; speaks = facts.speaks }

pub turn_done : (f : ℕ) (null : List ℕ) (faulty : ℕ → Bool) (w : World) (turn : HeaderTurn) → 0 < f → FewAreFaulty f faulty → Facts f faulty w
    → IsAuthentic faulty w turn.call → IsOffered f null faulty w turn.who turn.call → Facts f faulty (after_header_turn f null w turn)
turn_done f null faulty w turn positive few facts authentic offered =
    let i = turn.who in
    let moves = moves_of f null i (w i).now turn.call in
    let steps = steps_of i moves in
    let q = after_call f null w i turn.call in
    let new = after_header_turn f null w turn in
    let may = allowed f null faulty w i turn.call authentic in
    let tells = call_tells f null i (w i) turn.call in
    let there = sym (run_at f w i moves) in
    record {
      sound = run_sound f faulty w steps facts.sound may;
      heard = run_heard f faulty w steps facts.heard may (calls_offered f null faulty w i turn.call offered);
      speaks = subst (λ (x : World). (k : ℕ) → faulty k ≡ false → SpeaksNow f k (x k)) there
          (at_each (λ k p. faulty k ≡ false → SpeaksNow f k p) w i q
          (λ correct. call_speaks f null faulty w i turn.call positive few correct facts.heard (facts.sound.kept i correct) (facts.speaks i correct))
          facts.speaks);
      high = run_high f faulty w steps facts.high may;
      good = subst (λ (x : World). (k : ℕ) (m : ViewChange) → faulty k ≡ false → IsIn m (x k).changes → IsGood f faulty new k m) there
          (at_each (λ k p. (m : ViewChange) → faulty k ≡ false → IsIn m p.changes → IsGood f faulty new k m) w i q
          (λ m correct x. good_on f faulty w steps i m may (elim (tells.changes m x) [
            | inl old ↦ facts.good i m correct old
            | inr same ↦ subst (λ (y : ViewChange). IsGood f faulty w i y) (sym same) (made_now f faulty w i facts.heard (facts.high i) (facts.sound.kept i correct))
          ]))
          (λ k m correct x. good_on f faulty w steps k m may (facts.good k m correct x)));
      told = subst (λ (x : World). (k : ℕ) → faulty k ≡ false → HasTold (x k)) there
          (at_each (λ k p. faulty k ≡ false → HasTold p) w i q (λ correct. tells.told (facts.told i correct)) facts.told);
    }

pub turns_done : (f : ℕ) (null : List ℕ) (faulty : ℕ → Bool) (w : World) (turns : List HeaderTurn) → 0 < f → FewAreFaulty f faulty → Facts f faulty w
    → AreAuthentic f null faulty w turns → AreOffered f null faulty w turns → Facts f faulty (after_header_turns f null w turns)
turns_done f null faulty w [] positive few facts authentic offered = facts
turns_done f null faulty w (turn ∷ turns) positive few facts authentic offered =
    turns_done f null faulty (after_header_turn f null w turn) turns positive few (turn_done f null faulty w turn positive few facts authentic.0 offered.0) authentic.1 offered.1

pub start_facts : (f : ℕ) (faulty : ℕ → Bool) → Facts f faulty new_world
start_facts f faulty =
    record {
      sound = start_sound f faulty;
      heard = start_heard f faulty;
      speaks = λ k correct. record { prepares = λ n d backup x. absurd cc; commits = λ n d ready. absurd cc };
      high = λ k t s v n d x. absurd cc;
      good = λ k m correct x. absurd x;
      told = λ k correct. inl refl;
    }

pub always : (f : ℕ) (null : List ℕ) (faulty : ℕ → Bool) (turns : List HeaderTurn) → IsARun f null faulty turns → Facts f faulty (reached f null turns)
always f null faulty turns run = turns_done f null faulty new_world turns run.others run.few (start_facts f faulty) run.authentic run.offered
