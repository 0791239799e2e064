-- Three rounds, whatever else comes: what the primary has proposed is committed then.
use Rattle.std.proofs.Common.{◌≡◌, ℕ, ◌<◌, ◌==◌, Bool, true, false, List, [], ◌∷◌, ◌++◌, inl, inr, refl, sym, ap, subst, ◌∙◌, arith}
use Rattle.std.proofs.lemmas.Bool.{eqb-true, eq-eqb, cases_Bool}
use Rattle.bfs_votes.specs.Votes.{Told, primary, prepared}
use Rattle.bfs_agreement.specs.Histories.{IsIn, World, FewAreFaulty}
use Rattle.bfs_agreement.specs.Moves.{new_world}
use Rattle.bfs_agreement.specs.Calls.{vote, IsAuthentic, HeaderTurn, after_header_turn, after_header_turns, AreAuthentic}
use Rattle.bfs_progress.specs.Premises.{AreOffered, reached}
use Rattle.bfs_progress.specs.Members.{AreTogether, HasRoom, IsCommitted}
use Rattle.bfs_progress.specs.Exchanges.{IsRound}
use Rattle.bfs_progress.specs.Laws.{RoundsCommit}
use Rattle.bfs_progress.proofs.Turns.{after_join, authentic_parts, offered_parts}
use Rattle.bfs_progress.proofs.Reached.{Facts, Responds, responds, turn_done, turns_done, start_facts}
use Rattle.bfs_progress.proofs.Quiet.{has_prepared, has_committed, all_prepare, all_commit}
use Rattle.bfs_progress.proofs.Exchange.{receipt, IsVote, delivered, open_at}
use Rattle.bfs_progress.proofs.Later.{Later, then_later, turn_later, turns_later}

-- they are in the view, and the number has room
pub record AreOpen (f : ℕ) (faulty members : ℕ → Bool) (v n : ℕ) (w : World) : Type 0 where
  pub together : AreTogether f faulty members w v
  pub room : HasRoom members w n

-- so it is meanwhile where it is at first and at last
pub open_between : (f : ℕ) (faulty members : ℕ → Bool) (v n : ℕ) (w mid last : World) → AreOpen f faulty members v n w → AreOpen f faulty members v n last → Later w mid → Later mid last
    → AreOpen f faulty members v n mid
open_between f faulty members v n w mid last first end one two =
    record {
      together = record {
        quorum = first.together.quorum;
        entered = view_at;
        asked = λ k x. let a = first.together.asked k x in let b = end.together.asked k x in let c = (one k).asked in let d = (two k).asked in omega (arith, a, b, c, d);
      };
      room = record {
        low = λ k x. let a = end.room.low k x in let b = (two k).low in omega (arith, a, b);
        min_s = λ k x. subst (λ (m : ℕ). m < n) ((one k).min_s (first.together.entered k x ∙ sym (view_at k x))) (first.room.min_s k x);
        high = λ k x. let a = first.room.high k x in let b = (one k).low in omega (arith, a, b);
      };
    }
  where
    view_at : (k : ℕ) → members k ≡ true → (mid k).now.view ≡ v
    view_at k x = let a = first.together.entered k x in let b = end.together.entered k x in let c = (one k).view in let d = (two k).view in omega (arith, a, b, c, d)

-- what three rounds come to: the PRE-PREPARE is at each, then the PREPARE of each backup, then the COMMIT of each
pub in_three : (f : ℕ) (faulty members : ℕ → Bool) (v n : ℕ) (d : List ℕ) (w1 w2 w3 : World) → Responds f faulty w1 → Responds f faulty w2 → Responds f faulty w3
    → AreOpen f faulty members v n w1 → AreOpen f faulty members v n w2 → AreOpen f faulty members v n w3 → Later w1 w2 → Later w2 w3
    → ((k : ℕ) → members k ≡ true → Told (w1 k).now.log 2 (primary f v) v n d)
    → ((i k : ℕ) → members i ≡ true → members k ≡ true → (i == primary f v) ≡ false → Told (w1 i).now.log 3 i v n d → Told (w2 k).now.log 3 i v n d)
    → ((i k : ℕ) → members i ≡ true → members k ≡ true → Told (w2 i).now.log 4 i v n d → Told (w3 k).now.log 4 i v n d)
    → IsCommitted f members w3 v n d
in_three f faulty members v n d w1 w2 w3 one two three open1 open2 open3 later2 later3 has1 prepare commit =
    let p = primary f v in
    let has2 : (k : ℕ) → members k ≡ true → Told (w2 k).now.log 2 p v n d = λ k x. (later2 k).log 2 p v n d (open2.room.low k x) (has1 k x) in
    let prepares2 : (k i : ℕ) → members k ≡ true → members i ≡ true → (i == p) ≡ false → Told (w2 k).now.log 3 i v n d = λ k i x y backup.
    prepare i k y x backup (has_prepared f faulty members w1 v n d one open1.together open1.room.low i y backup (has1 i y)) in
    let ready2 : (k : ℕ) → members k ≡ true → prepared f k (w2 k).now.log v n d ≡ true = λ k x.
    all_prepare f faulty members w2 v n d two open2.together open2.room.low k x (has2 k x) (λ i y backup. prepares2 k i x y backup) in
    let commits3 : (k i : ℕ) → members k ≡ true → members i ≡ true → Told (w3 k).now.log 4 i v n d = λ k i x y.
    commit i k y x (has_committed f faulty members w2 v n d two open2.together open2.room.low i y (has2 i y) (ready2 i y)) in
    λ k x.
    let still = λ (t i : ℕ) (y : Told (w2 k).now.log t i v n d). (later3 k).log t i v n d (open3.room.low k x) y in
    let ready3 = all_prepare f faulty members w3 v n d three open3.together open3.room.low k x (still 2 p (has2 k x)) (λ i y backup. still 3 i (prepares2 k i x y backup)) in
    all_commit f faulty members w3 v n d three open3.together open3.room.low k x ready3 (λ i y. commits3 k i x y)

module _ (f : ℕ) (null : List ℕ) (faulty members : ℕ → Bool) (v n : ℕ) (positive : 0 < f) (few : FewAreFaulty f faulty) where
  abbrev IsOpen : World → Type 0
  IsOpen w = AreOpen f faulty members v n w

  -- what comes among the turns is there at their end
  comes : (w : World) (turns : List HeaderTurn) (i j t : ℕ) (d : List ℕ) → Facts f faulty w → AreAuthentic f null faulty w turns → AreOffered f null faulty w turns
      → IsOpen w → IsOpen (after_header_turns f null w turns) → faulty i ≡ false → members j ≡ true → IsVote f t i v
      → IsIn (receipt j (vote t i v n d)) turns → Told (after_header_turns f null w turns j).now.log t i v n d
  comes w [] i j t d facts authentic offered first end correct in_j kind there = absurd there
  comes w (turn ∷ turns) i j t d facts authentic offered first end correct in_j kind there =
      let w1 = after_header_turn f null w turn in
      let last = after_header_turns f null w1 turns in
      let one = turn_later f null faulty w turn (authentic.0, tt) in
      let two = turns_later f null faulty w1 turns authentic.1 in
      elim there [
        | inl same ↦
            let said = subst (λ (x : HeaderTurn). IsAuthentic faulty w x.call) (sym same) authentic.0 in
            let within = open_at f faulty members w v n j first.together first.room in_j in
            let at_w1 : Told (w1 j).now.log t i v n d = subst (λ (x : HeaderTurn). Told (after_header_turn f null w x j).now.log t i v n d) same (delivered f null faulty members v n d positive few w i j t facts correct within kind (said correct)) in
            (two j).log t i v n d (end.room.low j in_j) at_w1
        | inr later ↦ comes w1 turns i j t d (turn_done f null faulty w turn positive few facts authentic.0 offered.0) authentic.1 offered.1 (open_between f faulty members v n w w1 last first end one two) end correct in_j kind later
      ]

  -- a round
  heard_by : (w : World) (turns : List HeaderTurn) → Facts f faulty w → AreAuthentic f null faulty w turns → AreOffered f null faulty w turns → IsOpen w → IsOpen (after_header_turns f null w turns)
      → IsRound members w v n turns → (i j t : ℕ) (d : List ℕ) → members i ≡ true → members j ≡ true → IsVote f t i v → Told (w i).now.log t i v n d → Told (after_header_turns f null w turns j).now.log t i v n d
  heard_by w turns facts authentic offered first end round i j t d in_i in_j kind own = elim (cases_Bool (i == j)) [
    | inl same ↦ let e = eqb-true i j same in
        (turns_later f null faulty w turns authentic j).log t i v n d (end.room.low j in_j) (subst (λ (x : ℕ). Told (w x).now.log t i v n d) e own)
    | inr other ↦ comes w turns i j t d facts authentic offered first end (first.together.quorum.correct i in_i) in_j kind (round i j t d in_i in_j other own)
  ]

  rounds : (d : List ℕ) (w : World) (one two three : List HeaderTurn) → Facts f faulty w → AreAuthentic f null faulty w (one ++ (two ++ three)) → AreOffered f null faulty w (one ++ (two ++ three))
      → IsOpen w → IsOpen (after_header_turns f null (after_header_turns f null (after_header_turns f null w one) two) three)
      → Told (w (primary f v)).now.log 2 (primary f v) v n d → IsRound members w v n one → IsRound members (after_header_turns f null w one) v n two
      → IsRound members (after_header_turns f null (after_header_turns f null w one) two) v n three
      → IsCommitted f members (after_header_turns f null (after_header_turns f null (after_header_turns f null w one) two) three) v n d
  rounds d w one two three facts authentic offered first end proposal round1 round2 round3 =
      let p = primary f v in
      let w1 = after_header_turns f null w one in
      let w2 = after_header_turns f null w1 two in
      let w3 = after_header_turns f null w2 three in
      let a = authentic_parts f null faulty w one (two ++ three) authentic in
      let a2 = authentic_parts f null faulty w1 two three a.1 in
      let o = offered_parts f null faulty w one (two ++ three) offered in
      let o2 = offered_parts f null faulty w1 two three o.1 in
      let later1 = turns_later f null faulty w one a.0 in
      let later2 = turns_later f null faulty w1 two a2.0 in
      let later3 = turns_later f null faulty w2 three a2.1 in
      let open1 = open_between f faulty members v n w w1 w3 first end later1 (then_later w1 w2 w3 later2 later3) in
      let open2 = open_between f faulty members v n w w2 w3 first end (then_later w w1 w2 later1 later2) later3 in
      let facts1 = turns_done f null faulty w one positive few facts a.0 o.0 in
      let facts2 = turns_done f null faulty w1 two positive few facts1 a2.0 o2.0 in
      let facts3 = turns_done f null faulty w2 three positive few facts2 a2.1 o2.1 in
      let has1 : (k : ℕ) → members k ≡ true → Told (w1 k).now.log 2 p v n d = λ k x. heard_by w one facts a.0 o.0 first open1 round1 p k 2 d first.together.quorum.leads x (eq-eqb p p refl) proposal in
      in_three f faulty members v n d w1 w2 w3 (responds f faulty w1 facts1) (responds f faulty w2 facts2) (responds f faulty w3 facts3) open1 open2 end later2 later3 has1
      (λ i k x y backup own. heard_by w1 two facts1 a2.0 o2.0 open1 open2 round2 i k 3 d x y refl own) (λ i k x y own. heard_by w2 three facts2 a2.1 o2.1 open2 end round3 i k 4 d x y refl own)

pub rounds_commit : RoundsCommit
rounds_commit f null faulty members turns one two three v n d run together then_together room then_room proposal round1 round2 round3 =
    let w = reached f null turns in
    let w1 = after_header_turns f null w one in
    let w2 = after_header_turns f null w1 two in
    let w3 = after_header_turns f null w2 three in
    let all = one ++ (two ++ three) in
    let authentic = authentic_parts f null faulty new_world turns all run.authentic in
    let offered = offered_parts f null faulty new_world turns all run.offered in
    let at1 : reached f null (turns ++ one) ≡ w1 = after_join f null new_world turns one in
    let at2 : reached f null ((turns ++ one) ++ two) ≡ w2 = after_join f null new_world (turns ++ one) two ∙ ap (λ (x : World). after_header_turns f null x two) at1 in
    let at3 : reached f null (turns ++ all) ≡ w3 = after_join f null new_world turns all ∙ (after_join f null w one (two ++ three) ∙ after_join f null w1 two three) in
    let facts = turns_done f null faulty new_world turns run.others run.few (start_facts f faulty) authentic.0 offered.0 in
    subst (λ (x : World). IsCommitted f members x v n d) (sym at3)
    (rounds f null faulty members v n run.others run.few d w one two three facts authentic.1 offered.1 (record { together = together; room = room })
    (subst (λ (x : World). AreOpen f faulty members v n x) at3 (record { together = then_together; room = then_room })) proposal round1
    (subst (λ (x : World). IsRound members x v n two) at1 round2) (subst (λ (x : World). IsRound members x v n three) at2 round3))
