-- Counting numbers below a bound.
use Rattle.std.proofs.Common.{◌≡◌, ℕ, zero, suc, ◌+◌, ◌*◌, ◌<◌, ◌≤◌, ◌==◌, Bool, true, false, ◌&&◌, ◌||◌, not, cond, refl, arith}
use Rattle.std.proofs.lemmas.Bool.{eqb-false}
use Rattle.bfs_votes.specs.Laws.{QuorumsMeet}
use Rattle.bfs_votes.specs.Votes.{count_below, replicas}
use Rattle.bfs_agreement.specs.Histories.{FewAreFaulty}
use Rattle.bfs_votes.proofs.Public.{more}

-- any two sets of 2f + 1 replicas share a correct one
abbrev pub QuorumsShare : (f : ℕ) (faulty : ℕ → Bool) → Type 0
QuorumsShare f faulty = (one other : ℕ → Bool) → 2 * f + 1 ≤ count_below one (replicas f) → 2 * f + 1 ≤ count_below other (replicas f)
    → (k : ℕ) × (k < replicas f) × (one k ≡ true) × (other k ≡ true) × (faulty k ≡ false)

pub quorums_share : QuorumsMeet → (f : ℕ) (faulty : ℕ → Bool) → FewAreFaulty f faulty → QuorumsShare f faulty
quorums_share meet f faulty few = λ one other p q. meet f one other faulty p q few

step_one : (e a : Bool) (x y : ℕ) → (e ≡ true → x ≤ y) → (e ≡ false → x + 1 ≤ y) → cond (not e && a) (1 + x) x + 1 ≤ cond (e || a) (1 + y) y
step_one true a x y h g = let k : x ≤ y = h refl in omega arith
step_one false true x y h g = let k : x + 1 ≤ y = g refl in omega arith
step_one false false x y h g = let k : x + 1 ≤ y = g refl in omega arith

either_way : (e a : Bool) → (not e && a) ≡ true → (e || a) ≡ true
either_way true a h = refl
either_way false a h = h

-- the primary beside its backups
pub with_one : (a : ℕ → Bool) (m n : ℕ) → m < n → count_below (λ k. not (k == m) && a k) n + 1 ≤ count_below (λ k. (k == m) || a k) n
with_one a m zero lt = absurd (omega arith)
with_one a m (suc n) lt =
    step_one (n == m) (a n) (count_below (λ k. not (k == m) && a k) n) (count_below (λ k. (k == m) || a k) n)
    (λ e. more (λ k. not (k == m) && a k) (λ k. (k == m) || a k) n (λ k h. either_way (k == m) (a k) h))
    (λ e. with_one a m n (omega (arith, eqb-false n m e)))
