-- Turns one behind another, and who is left as it was.
use Rattle.std.proofs.Common.{◌≡◌, ℕ, ◌==◌, Bool, false, List, [], ◌∷◌, ◌++◌, refl, sym, subst}
use Rattle.std.proofs.lemmas.Bool.{cond_both}
use Rattle.bfs_agreement.specs.Histories.{History, World}
use Rattle.bfs_agreement.specs.Nodes.{after_moves}
use Rattle.bfs_agreement.specs.Calls.{HeaderCall, moves_of, HeaderTurn, after_header_turn, after_header_turns, AreAuthentic}
use Rattle.bfs_agreement.proofs.Public.{here_itself, run_at}
use Rattle.bfs_progress.specs.Premises.{AreOffered}
use Rattle.bfs_progress.specs.Ways.{AreTurnsOf}

-- what a call makes of a history
abbrev pub after_call : (f : ℕ) (null : List ℕ) → World → (who : ℕ) → HeaderCall → History
after_call f null w who call = after_moves f who (w who) (moves_of f null who (w who).now call)

module _ (f : ℕ) (null : List ℕ) where
  -- it is the caller's behind the turn
  pub at_caller : (P : History → Type 0) (w : World) (turn : HeaderTurn) → P (after_call f null w turn.who turn.call) → P (after_header_turn f null w turn turn.who)
  at_caller P w turn x =
      let q = after_call f null w turn.who turn.call in
      subst (λ (new : World). P (new turn.who)) (sym (run_at f w turn.who (moves_of f null turn.who (w turn.who).now turn.call))) (subst P (sym (here_itself w turn.who q)) x)

  -- and others are left as they were
  pub others_stay : (w : World) (turn : HeaderTurn) (k : ℕ) → (k == turn.who) ≡ false → after_header_turn f null w turn k ≡ w k
  others_stay w turn k differs =
      let q = after_call f null w turn.who turn.call in
      subst (λ (new : World). new k ≡ w k) (sym (run_at f w turn.who (moves_of f null turn.who (w turn.who).now turn.call)))
      (cond_both (k == turn.who) q (w k) (λ (p : History). p ≡ w k) (λ same. absurd cc) (λ _. refl))

  pub after_join : (w : World) (xs ys : List HeaderTurn) → after_header_turns f null w (xs ++ ys) ≡ after_header_turns f null (after_header_turns f null w xs) ys
  after_join w [] ys = refl
  after_join w (x ∷ xs) ys = after_join (after_header_turn f null w x) xs ys

  pub authentic_join : (faulty : ℕ → Bool) (w : World) (xs ys : List HeaderTurn) → AreAuthentic f null faulty w xs → AreAuthentic f null faulty (after_header_turns f null w xs) ys
      → AreAuthentic f null faulty w (xs ++ ys)
  authentic_join faulty w [] ys a b = b
  authentic_join faulty w (x ∷ xs) ys a b = (a.0, authentic_join faulty (after_header_turn f null w x) xs ys a.1 b)

  pub offered_join : (faulty : ℕ → Bool) (w : World) (xs ys : List HeaderTurn) → AreOffered f null faulty w xs → AreOffered f null faulty (after_header_turns f null w xs) ys
      → AreOffered f null faulty w (xs ++ ys)
  offered_join faulty w [] ys a b = b
  offered_join faulty w (x ∷ xs) ys a b = (a.0, offered_join faulty (after_header_turn f null w x) xs ys a.1 b)

  pub authentic_parts : (faulty : ℕ → Bool) (w : World) (xs ys : List HeaderTurn) → AreAuthentic f null faulty w (xs ++ ys)
      → AreAuthentic f null faulty w xs × AreAuthentic f null faulty (after_header_turns f null w xs) ys
  authentic_parts faulty w [] ys a = (tt, a)
  authentic_parts faulty w (x ∷ xs) ys a = let rest = authentic_parts faulty (after_header_turn f null w x) xs ys a.1 in ((a.0, rest.0), rest.1)

  pub offered_parts : (faulty : ℕ → Bool) (w : World) (xs ys : List HeaderTurn) → AreOffered f null faulty w (xs ++ ys)
      → AreOffered f null faulty w xs × AreOffered f null faulty (after_header_turns f null w xs) ys
  offered_parts faulty w [] ys a = (tt, a)
  offered_parts faulty w (x ∷ xs) ys a = let rest = offered_parts faulty (after_header_turn f null w x) xs ys a.1 in ((a.0, rest.0), rest.1)

pub turns_of_join : (members : ℕ → Bool) (xs ys : List HeaderTurn) → AreTurnsOf members xs → AreTurnsOf members ys → AreTurnsOf members (xs ++ ys)
turns_of_join members [] ys a b = b
turns_of_join members (x ∷ xs) ys a b = (a.0, turns_of_join members xs ys a.1 b)
