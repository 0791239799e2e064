-- Counting up to a bound, and counting replicas.
use Rattle.std.proofs.Common.{◌≡◌, ℕ, zero, suc, ◌+◌, ◌<◌, ◌≤◌, ◌==◌, Bool, true, false, ◌&&◌, not, cond, eqb, ◌⊎◌, inl, inr, refl, sym, subst, arith}
use Rattle.std.proofs.lemmas.Bool.{eqb-true, eqb-false, eq-eqb, cases_Bool, cases_lt}
use Rattle.bfs_votes.specs.Votes.{count_below}
use Rattle.bfs_votes.proofs.Public.{more, once_below}

-- what holds at a number and below it
pub each_below : (b : ℕ) (P : ℕ → Type 0) → P b → ((k : ℕ) → k < b → P k) → (k : ℕ) → k < suc b → P k
each_below b P here below k low = elim (cases_Bool (k == b)) [
  | inl same ↦ subst P (sym (eqb-true k b same)) here
  | inr other ↦ elim (cases_lt k b) [ inl lt ↦ below k lt | inr le ↦ absurd (eqb-false k b other (omega (arith, low, le))) ]
]

pub differs : (k b : ℕ) → (k ≡ b → ⊥) → (k == b) ≡ false
differs k b other = elim (cases_Bool (k == b)) [ inl same ↦ absurd (other (eqb-true k b same)) | inr x ↦ x ]

-- a number is there once at most
pub one_below : (m n : ℕ) → count_below (λ k. k == m) n ≤ 1
one_below m n =
    let le = more (λ k. k == m) (λ k. eqb m k) n (λ k x. eq-eqb m k (sym (eqb-true k m x))) in
    let one = once_below m n in
    omega (arith, le, one)

step_without : (a e : Bool) (x y z : ℕ) → x ≤ y + z → cond a (1 + x) x ≤ cond (not e && a) (1 + y) y + cond e (1 + z) z
step_without true true x y z le = omega (arith, le)
step_without true false x y z le = omega (arith, le)
step_without false true x y z le = omega (arith, le)
step_without false false x y z le = omega (arith, le)

with_itself : (a : ℕ → Bool) (m n : ℕ) → count_below a n ≤ count_below (λ k. not (k == m) && a k) n + count_below (λ k. k == m) n
with_itself a m zero = omega arith
with_itself a m (suc n) = step_without (a n) (n == m) (count_below a n) (count_below (λ k. not (k == m) && a k) n) (count_below (λ k. k == m) n) (with_itself a m n)

-- one number fewer pass where it is left out
pub without_one : (a : ℕ → Bool) (m n : ℕ) → count_below a n ≤ count_below (λ k. not (k == m) && a k) n + 1
without_one a m n = let le = with_itself a m n in let one = one_below m n in omega (arith, le, one)

step_less : (x y : Bool) (p q : ℕ) → cond y (1 + q) q < cond x (1 + p) p → ((x ≡ true) × (y ≡ false)) ⊎ (q < p)
step_less true true p q lt = inr (omega (arith, lt))
step_less true false p q lt = inl (refl, refl)
step_less false true p q lt = inr (omega (arith, lt))
step_less false false p q lt = inr lt

-- where more pass one test than another, some number passes it alone
pub one_more : (a b : ℕ → Bool) (n : ℕ) → count_below b n < count_below a n → (k : ℕ) × (k < n) × (a k ≡ true) × (b k ≡ false)
one_more a b zero lt = absurd (omega (arith, lt))
one_more a b (suc n) lt = elim (step_less (a n) (b n) (count_below a n) (count_below b n) lt) [
  | inl both ↦ (n, omega arith, both.0, both.1)
  | inr less ↦ let got = one_more a b n less in let low = got.1 in (got.0, omega (arith, low), got.2, got.3)
]
