-- How many numbers below a bound pass a test: by other tests.
use Rattle.std.proofs.Common.{◌≡◌, ℕ, zero, suc, ◌+◌, ◌<◌, ◌≤◌, Bool, true, false, ◌||◌, cond, eqb, refl, arith}
use Rattle.std.proofs.lemmas.Bool.{eqb-true}
use Rattle.bfs_votes.specs.Votes.{count_below}

none_step : (b : Bool) (x : ℕ) → b ≡ false → x ≡ 0 → cond b (1 + x) x ≡ 0
none_step true x is rest = absurd cc
none_step false x is rest = rest

pub none_below : (p : ℕ → Bool) (n : ℕ) → ((k : ℕ) → p k ≡ false) → count_below p n ≡ 0
none_below p zero none = refl
none_below p (suc n) none = none_step (p n) (count_below p n) (none n) (none_below p n none)

same_step : (a b : Bool) (x y : ℕ) → a ≡ b → x ≡ y → cond a (1 + x) x ≡ cond b (1 + y) y
same_step a b x y e h = rw (e, h)

pub same_below : (p q : ℕ → Bool) (n : ℕ) → ((k : ℕ) → k < n → p k ≡ q k) → count_below p n ≡ count_below q n
same_below p q zero same = refl
same_below p q (suc n) same = same_step (p n) (q n) (count_below p n) (count_below q n) (same n (omega arith)) (same_below p q n (λ k low. same k (omega (arith, low))))

pub same_count : (p q : ℕ → Bool) (n : ℕ) → ((k : ℕ) → p k ≡ q k) → count_below p n ≡ count_below q n
same_count p q n same = same_below p q n (λ k low. same k)

more_step : (a b : Bool) (x y : ℕ) → (a ≡ true → b ≡ true) → x ≤ y → cond a (1 + x) x ≤ cond b (1 + y) y
more_step true true x y h le = omega (arith, le)
more_step true false x y h le = let no : false ≡ true = h refl in absurd cc
more_step false true x y h le = omega (arith, le)
more_step false false x y h le = le

-- what passes one test passes the other
pub more_below : (p q : ℕ → Bool) (n : ℕ) → ((k : ℕ) → k < n → p k ≡ true → q k ≡ true) → count_below p n ≤ count_below q n
more_below p q zero h = omega arith
more_below p q (suc n) h = more_step (p n) (q n) (count_below p n) (count_below q n) (h n (omega arith)) (more_below p q n (λ k low. h k (omega (arith, low))))

pub more : (p q : ℕ → Bool) (n : ℕ) → ((k : ℕ) → p k ≡ true → q k ≡ true) → count_below p n ≤ count_below q n
more p q n h = more_below p q n (λ k low. h k)

either_step : (a b : Bool) (x y z : ℕ) → x ≤ y + z → cond (a || b) (1 + x) x ≤ cond a (1 + y) y + cond b (1 + z) z
either_step true true x y z h = omega (arith, h)
either_step true false x y z h = omega (arith, h)
either_step false true x y z h = omega (arith, h)
either_step false false x y z h = omega (arith, h)

pub either_below : (p q : ℕ → Bool) (n : ℕ) → count_below (λ k. p k || q k) n ≤ count_below p n + count_below q n
either_below p q zero = omega arith
either_below p q (suc n) = either_step (p n) (q n) (count_below (λ k. p k || q k) n) (count_below p n) (count_below q n) (either_below p q n)

not_yet : (m n : ℕ) → n ≤ m → count_below (λ k. eqb m k) n ≡ 0
not_yet m zero le = refl
not_yet m (suc n) le = go (eqb m n) refl (not_yet m n (omega (arith, le)))
  where
    go : (t : Bool) → eqb m n ≡ t → count_below (λ k. eqb m k) n ≡ 0 → cond t (1 + count_below (λ k. eqb m k) n) (count_below (λ k. eqb m k) n) ≡ 0
    go true e before = absurd (omega (arith, le, eqb-true m n e))
    go false e before = before

-- a number is there once at most
pub once_below : (m n : ℕ) → count_below (λ k. eqb m k) n ≤ 1
once_below m zero = omega arith
once_below m (suc n) = go (eqb m n) refl (once_below m n)
  where
    go : (t : Bool) → eqb m n ≡ t → count_below (λ k. eqb m k) n ≤ 1 → cond t (1 + count_below (λ k. eqb m k) n) (count_below (λ k. eqb m k) n) ≤ 1
    go true e before = omega (arith, not_yet m n (omega (arith, eqb-true m n e)))
    go false e before = before
