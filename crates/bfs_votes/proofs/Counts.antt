-- Counting numbers below a bound: two sets of 2f + 1 below 3f + 1 share one that is not among f.
use Rattle.std.proofs.Common.{◌≡◌, ℕ, zero, suc, ◌+◌, ◌<◌, ◌≤◌, Bool, true, false, ◌&&◌, not, cond, refl, arith}
use Rattle.std.proofs.lemmas.Bool.{and_parts, not-true}
use Rattle.bfs_votes.specs.Votes.{count_below, replicas}
use Rattle.bfs_votes.specs.Laws.{QuorumsMeet}

step_both : (a b : Bool) (x y z n : ℕ) → x + y ≤ n + z → cond a (1 + x) x + cond b (1 + y) y ≤ suc n + cond (a && b) (1 + z) z
step_both true true x y z n h = omega arith
step_both true false x y z n h = omega arith
step_both false true x y z n h = omega arith
step_both false false x y z n h = omega arith

both : (p q : ℕ → Bool) (n : ℕ) → count_below p n + count_below q n ≤ n + count_below (λ k. p k && q k) n
both p q zero = omega arith
both p q (suc n) = step_both (p n) (q n) (count_below p n) (count_below q n) (count_below (λ k. p k && q k) n) n (both p q n)

step_good : (a b : Bool) (x y z : ℕ) → x ≤ y + z → cond a (1 + x) x ≤ cond (a && not b) (1 + y) y + cond b (1 + z) z
step_good true true x y z h = omega arith
step_good true false x y z h = omega arith
step_good false true x y z h = omega arith
step_good false false x y z h = omega arith

good : (p bad : ℕ → Bool) (n : ℕ) → count_below p n ≤ count_below (λ k. p k && not (bad k)) n + count_below bad n
good p bad zero = omega arith
good p bad (suc n) = step_good (p n) (bad n) (count_below p n) (count_below (λ k. p k && not (bad k)) n) (count_below bad n) (good p bad n)

found_step : (p : ℕ → Bool) (n : ℕ) (b : Bool) → p n ≡ b → 0 < cond b (1 + count_below p n) (count_below p n)
    → (0 < count_below p n → (k : ℕ) × (k < n) × (p k ≡ true)) → (k : ℕ) × (k < suc n) × (p k ≡ true)
found_step p n true e h below = (n, omega arith, e)
found_step p n false e h below = let got = below h in (got.0, omega arith, got.2)

some_below : (p : ℕ → Bool) (n : ℕ) → 0 < count_below p n → (k : ℕ) × (k < n) × (p k ≡ true)
some_below p zero h = absurd (omega arith)
some_below p (suc n) h = found_step p n (p n) refl h (some_below p n)

pub quorums_meet : QuorumsMeet
quorums_meet f first second faulty h1 h2 few =
    let shared = both first second (replicas f) in
    let sound = good (λ k. first k && second k) faulty (replicas f) in
    let got = some_below (λ k. (first k && second k) && not (faulty k)) (replicas f) (omega (arith, shared, sound)) in
    let parts = and_parts (first got.0 && second got.0) (not (faulty got.0)) got.2 in
    let each = and_parts (first got.0) (second got.0) parts.0 in
    (got.0, got.1, each.0, each.1, not-true (faulty got.0) parts.1)
