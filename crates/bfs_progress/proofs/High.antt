-- Numbers of a log lie up to the high mark.
use Rattle.std.proofs.Common.{ℕ, ◌+◌, ◌≤◌, Bool, ltb, leb, List, [], ◌∷◌, inl, inr, subst, arith}
use Rattle.std.proofs.lemmas.Bool.{and_parts, leb-true}
use Rattle.bfs_votes.specs.Votes.{Told}
use Rattle.bfs_agreement.specs.Histories.{History, World}
use Rattle.bfs_agreement.specs.Moves.{Move, Accepts, Says, Drops, Leaves, Enters, Executes, after_move, IsAllowed, Step, after_step, after_steps, AreAllowed}
use Rattle.bfs_agreement.proofs.Public.{told_cases, kept_told, at_each}
use Rattle.bfs_progress.proofs.Logs.{taken_from}

abbrev pub LogHigh : History → Type 0
LogHigh p = (t k v n : ℕ) (d : List ℕ) → Told p.now.log t k v n d → n ≤ p.now.low + 32

high_after : (f me : ℕ) (faulty : ℕ → Bool) (w : World) (p : History) (move : Move) → IsAllowed f faulty w me p move → LogHigh p → LogHigh (after_move f me p move)
high_after f me faulty w p (Accepts h) may high t k v n d x = elim (told_cases h p.now.log t k v n d x) [
  | inl a ↦ subst (λ (m : ℕ). m ≤ p.now.low + 32) a.number may.opened.high
  | inr b ↦ high t k v n d b
]
high_after f me faulty w p (Says h) may high t k v n d x = elim (told_cases h p.now.log t k v n d x) [
  | inl a ↦ subst (λ (m : ℕ). m ≤ p.now.low + 32) a.number may.opened.high
  | inr b ↦ high t k v n d b
]
high_after f me faulty w p (Drops m) may high t k v n d x = let le = high t k v n d (kept_told m p.now.log t k v n d x) in omega (arith, le, may)
high_after f me faulty w p (Leaves m) may high t k v n d x = high t k v n d x
high_after f me faulty w p (Enters r) may high t k v n d x = elim (taken_from p.now.low r.proposals p.now.log t k v n d x) [
  | inl y ↦
      let h = y.0 in
      let number = y.3.number in
      let le = leb-true h.number (p.now.low + 32) (and_parts (ltb p.now.low h.number) (leb h.number (p.now.low + 32)) y.2).1 in
      omega (arith, le, number)
  | inr b ↦ high t k v n d b
]
high_after f me faulty w p (Executes h) may high t k v n d x = high t k v n d x

pub run_high : (f : ℕ) (faulty : ℕ → Bool) (w : World) (steps : List Step) → ((k : ℕ) → LogHigh (w k)) → AreAllowed f faulty w steps → (k : ℕ) → LogHigh (after_steps f w steps k)
run_high f faulty w [] high all = high
run_high f faulty w (step ∷ steps) high all =
    let i = step.who in
    run_high f faulty (after_step f w step) steps
    (at_each (λ k p. LogHigh p) w i (after_move f i (w i) step.move) (high_after f i faulty w (w i) step.move all.0 (high i)) high) all.1
