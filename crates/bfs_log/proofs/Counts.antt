-- Where no two are of one sender, the senders that tell a digest are as many as those who say so.
use Rattle.std.proofs.Common.{◌≡◌, ℕ, zero, suc, ◌+◌, ◌<◌, Bool, true, false, ◌&&◌, ◌||◌, cond, List, [], ◌∷◌, refl, ap, sym, ◌∙◌, arith, nat_lt}
use Rattle.std.specs.Prelude.{◌==◌, bytes_eq, count_by}
use Rattle.std.specs.List.{list_any}
use Rattle.std.proofs.lemmas.Bool.{eqb-true, eqb-false, lt-ltb, le-ltb, ltb-true}
use Rattle.std.proofs.lemmas.List.Sums.{sum_by-cons}
use Rattle.std.specs.Cmp.{both_ways}
use Rattle.bfs_votes.specs.Votes.{count_below}
use Rattle.bfs_log.specs.Batches.{Said}
use Rattle.bfs_log.specs.Rows.{SendersDiffer, is_from, tells}

none_step : (q : Bool) (x : ℕ) → x ≡ 0 → cond (q && false) (1 + x) x ≡ 0
none_step true x h = h
none_step false x h = h

none_below : (q : ℕ → Bool) (n : ℕ) → count_below (λ k. q k && false) n ≡ 0
none_below q zero = refl
none_below q (suc n) = none_step (q n) (count_below (λ k. q k && false) n) (none_below q n)

-- at the sender itself, where it has not told before
at_it : (q b r : Bool) (x y : ℕ) → r ≡ false → x ≡ y → cond (q && (b || r)) (1 + x) x ≡ cond (q && b) 1 0 + cond (q && r) (1 + y) y
at_it true true false x y none h = omega arith
at_it true false false x y none h = omega arith
at_it false b r x y none h = omega arith
at_it true true true x y none h = absurd cc
at_it true false true x y none h = absurd cc

at_another : (c : Bool) (a x y : ℕ) → x ≡ a + y → cond c (1 + x) x ≡ a + cond c (1 + y) y
at_another true a x y h = omega arith
at_another false a x y h = h

later : (j n : ℕ) → (j == n) ≡ false → nat_lt j (suc n) ≡ nat_lt j n
later j n other = both_ways (nat_lt j (suc n)) (nat_lt j n)
    (λ h. let lt : j < suc n = ltb-true j (suc n) h in let ne = eqb-false j n other in lt-ltb j n (omega arith))
    (λ h. let lt : j < n = ltb-true j n h in lt-ltb j (suc n) (omega arith))

more_step : (j n : ℕ) (e b : Bool) (q r : ℕ → Bool) (x y : ℕ) → (j == n) ≡ e → r j ≡ false → x ≡ cond (nat_lt j n && (q j && b)) 1 0 + y
    → cond (q n && ((e && b) || r n)) (1 + x) x ≡ cond (nat_lt j (suc n) && (q j && b)) 1 0 + cond (q n && r n) (1 + y) y
more_step j n true b q r x y same none h =
    let here : j ≡ n = eqb-true j n same in
    let above : nat_lt j n ≡ false = le-ltb j n (omega arith) in
    let below : nat_lt j (suc n) ≡ true = lt-ltb j (suc n) (omega arith) in
    let same_count : x ≡ 0 + y = rw above at h in
    rw (below, ap q here) (at_it (q n) b (r n) x y (sym (ap r here) ∙ none) (omega arith))
more_step j n false b q r x y same none h =
    rw (later j n same) (at_another (q n && r n) (cond (nat_lt j n && (q j && b)) 1 0) x y h)

-- one more that tells it, of a sender that has not told it
one_more : (j : ℕ) (b : Bool) (q r : ℕ → Bool) (n : ℕ) → r j ≡ false
    → count_below (λ k. q k && (((j == k) && b) || r k)) n ≡ cond (nat_lt j n && (q j && b)) 1 0 + count_below (λ k. q k && r k) n
one_more j b q r zero none = rw (le-ltb j 0 (omega arith)) refl
one_more j b q r (suc n) none =
    more_step j n (j == n) b q r (count_below (λ k. q k && (((j == k) && b) || r k)) n) (count_below (λ k. q k && r k) n) refl none (one_more j b q r n none)

untold_step : (e b r s : Bool) → (e || r) ≡ false → (r ≡ false → s ≡ false) → ((e && b) || s) ≡ false
untold_step false b false s h k = k refl
untold_step false b true s h k = absurd cc
untold_step true b r s h k = absurd cc

untold : (row : List Said) (digest : List ℕ) (sender : ℕ) → list_any (is_from sender) row ≡ false → tells row digest sender ≡ false
untold [] digest sender h = refl
untold (said ∷ row) digest sender h =
    untold_step (said.sender == sender) (bytes_eq said.digest digest) (list_any (is_from sender) row) (tells row digest sender) h (untold row digest sender)

pub tellers_counted : (row : List Said) (digest : List ℕ) (q : ℕ → Bool) (n : ℕ) → SendersDiffer row
    → count_below (λ k. q k && tells row digest k) n ≡ count_by (λ said. nat_lt said.sender n && (q said.sender && bytes_eq said.digest digest)) row
tellers_counted [] digest q n differ = none_below q n
tellers_counted (said ∷ row) digest q n differ =
    one_more said.sender (bytes_eq said.digest digest) q (tells row digest) n (untold row digest said.sender differ.0)
    ∙ ap (λ x. cond (nat_lt said.sender n && (q said.sender && bytes_eq said.digest digest)) 1 0 + x) (tellers_counted row digest q n differ.1)
    ∙ sym (sum_by-cons (λ said. cond (nat_lt said.sender n && (q said.sender && bytes_eq said.digest digest)) 1 0) said row)
