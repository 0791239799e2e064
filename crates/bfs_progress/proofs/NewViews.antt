-- NEW-VIEWs come to members that have asked for their view, whatever else comes.
use Rattle.std.proofs.Common.{◌≡◌, ℕ, ◌<◌, ◌≤◌, Bool, true, false, List, [], ◌∷◌, inl, inr, sym, subst, arith}
use Rattle.std.proofs.lemmas.Bool.{cases_lt}
use Rattle.bfs_agreement.specs.Histories.{IsIn, ViewChange, History, World, FewAreFaulty}
use Rattle.bfs_agreement.specs.Moves.{new_world}
use Rattle.bfs_agreement.specs.Choice.{chosen}
use Rattle.bfs_agreement.specs.Calls.{is_new_view, ChangesView, HeaderTurn, after_header_turn, after_header_turns, AreAuthentic}
use Rattle.bfs_progress.specs.Premises.{AreOffered, reached}
use Rattle.bfs_progress.specs.Members.{AreTogether}
use Rattle.bfs_progress.specs.Laws.{NewViewsAreEntered}
use Rattle.bfs_progress.proofs.Turns.{at_caller, after_join, authentic_parts, offered_parts}
use Rattle.bfs_progress.proofs.Later.{turn_later, turns_later}
use Rattle.bfs_progress.proofs.Reached.{Facts, start_facts, turn_done, turns_done}
use Rattle.bfs_progress.proofs.Entrance.{Entered, enter_one}

-- one that has asked for the view, and asks for none later, has entered it at the end
comes_in : (f : ℕ) (null : List ℕ) (faulty : ℕ → Bool) (w : World) (turns : List HeaderTurn) (k v : ℕ) (ms : List ViewChange) → 0 < f → FewAreFaulty f faulty → Facts f faulty w
    → AreAuthentic f null faulty w turns → AreOffered f null faulty w turns → faulty k ≡ false → (w k).now.asked ≡ v → (after_header_turns f null w turns k).now.asked ≡ v
    → is_new_view f v ms ≡ true → IsIn (record { who = k; call = ChangesView v ms }) turns → v ≤ (after_header_turns f null w turns k).now.view
comes_in f null faulty w [] k v ms positive few facts authentic offered correct first last new there = absurd there
comes_in f null faulty w (turn ∷ turns) k v ms positive few facts authentic offered correct first last new there =
    let w1 = after_header_turn f null w turn in
    let one = turn_later f null faulty w turn (authentic.0, tt) k in
    let two = turns_later f null faulty w1 turns authentic.1 k in
    let view_one = one.view in
    let view_two = two.view in
    elim there [
      | inl same ↦ elim (cases_lt (w k).now.view v) [
        | inl before ↦
            let enters : HeaderTurn = record { who = k; call = ChangesView v ms } in
            let entered = at_caller f null (λ (q : History). Entered f k (w k) q (chosen f v null ms)) w enters (enter_one f null k (w k) v ms before first new) in
            let at : (w1 k).now.view ≡ v = subst (λ (x : HeaderTurn). (after_header_turn f null w x k).now.view ≡ v) same entered.view in
            omega (arith, at, view_two)
        | inr there ↦ omega (arith, there, view_one, view_two)
      ]
      | inr later ↦
          let asked_one = one.asked in
          let asked_two = two.asked in
          let asked : (w1 k).now.asked ≡ v = omega (arith, first, last, asked_one, asked_two) in
          comes_in f null faulty w1 turns k v ms positive few (turn_done f null faulty w turn positive few facts authentic.0 offered.0) authentic.1 offered.1 correct asked last new later
    ]

pub new_views_are_entered : NewViewsAreEntered
new_views_are_entered f null faulty members turns further v run asked last come =
    let w = reached f null turns in
    let new = after_header_turns f null w further in
    let authentic = authentic_parts f null faulty new_world turns further run.authentic in
    let offered = offered_parts f null faulty new_world turns further run.offered in
    let facts = turns_done f null faulty new_world turns run.others run.few (start_facts f faulty) authentic.0 offered.0 in
    let facts1 = turns_done f null faulty w further run.others run.few facts authentic.1 offered.1 in
    let at = after_join f null new_world turns further in
    let asked1 : (k : ℕ) → members k ≡ true → (new k).now.asked ≡ v = λ k x. subst (λ (y : World). (y k).now.asked ≡ v) at (last k x) in
    subst (λ (x : World). AreTogether f faulty members x v) (sym at) (record {
      quorum = asked.quorum;
      entered = λ k x.
          let correct = asked.quorum.correct k x in
          let got = come k x in
          let le = comes_in f null faulty w further k v got.0 run.others run.few facts authentic.1 offered.1 correct (asked.asked k x) (asked1 k x) got.1 got.2 in
          let kept = (facts1.sound.kept k correct).asked in
          let is = asked1 k x in
          omega (arith, le, kept, is);
      asked = asked1;
    })
