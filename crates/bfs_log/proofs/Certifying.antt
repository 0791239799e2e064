-- Certificates: 2f + 1 senders that differ are counted, and each is told by the log that has their messages.
use Rattle.std.proofs.Common.{◌≡◌, ℕ, zero, suc, ◌+◌, ◌*◌, ◌<◌, ◌≤◌, Bool, true, false, cond, eqb, ltb, leb, ◌||◌, not, List, [], ◌∷◌, length, refl, ap, arith}
use Rattle.std.specs.Prelude.{All, bytes_eq, map}
use Rattle.std.specs.List.{list_all}
use Rattle.std.proofs.lemmas.Bool.{and_parts, eqb-true, eqb-false, ltb-true, leb-true, not-true, false_from_ne_true}
use Rattle.std.proofs.lemmas.List.Elements.{All-nil, All-cons, All-head, All-tail, All-weaker}
use Rattle.std.proofs.lemmas.Slice.Eq.{bytes_eq-Decides}
use Rattle.bfs_auth.specs.Keys.{Keys}
use Rattle.bfs_model.specs.Server.Limits.{most_faults, most_replicas}
use Rattle.bfs_votes.specs.Votes.{count_below, replicas}
use Rattle.bfs_log.specs.Headers.{header}
use Rattle.bfs_log.specs.Logs.{Log}
use Rattle.bfs_messages.specs.declared.signed.Signed.{Signed}
use Rattle.bfs_messages.specs.declared.order_messages.OrderMessage.{OrderMessage}
use Rattle.bfs_messages.specs.Signing.{as_message, order_is_signed}
use Rattle.bfs_messages.specs.declared.order_messages.OrderMessage.TheVariants.{Checkpoint}
use Rattle.bfs_log.specs.Certificates.{StableCheckpoint, checkpoints_in, has_sender, is_shown, senders_differ, vouches}
use Rattle.bfs_votes.proofs.Public.{more}

-- a replica's signed CHECKPOINT of that number and digest
pub record IsVoucher (keys : Keys) (f n : ℕ) (d : List ℕ) (m : Signed OrderMessage) : Type 0 where
  pub tag : (header m).tag ≡ 5
  pub number : (header m).number ≡ n
  pub digest : (header m).digest ≡ d
  pub sender : (header m).sender < replicas f
  pub signed : order_is_signed keys m ≡ true

is_voucher : (keys : Keys) (f n : ℕ) (d : List ℕ) (m : Signed OrderMessage) → vouches keys f n d m ≡ true → IsVoucher keys f n d m
is_voucher keys f n d m e =
    let h = header m in
    let a = and_parts (eqb h.tag 5) _ e in
    let b = and_parts (eqb h.number n) _ a.1 in
    let c = and_parts (bytes_eq h.digest d) _ b.1 in
    let s = and_parts (ltb h.sender (replicas f)) _ c.1 in
    record { tag = eqb-true h.tag 5 a.0; number = eqb-true h.number n b.0; digest = (bytes_eq-Decides h.digest d).0 c.0; sender = ltb-true h.sender (replicas f) s.0; signed = s.1 }

each_voucher : (keys : Keys) (f n : ℕ) (d : List ℕ) (ms : Log) → list_all (vouches keys f n d) ms ≡ true → All (IsVoucher keys f n d) ms
each_voucher keys f n d [] e = All-nil (IsVoucher keys f n d)
each_voucher keys f n d (m ∷ ms) e =
    let parts = and_parts (vouches keys f n d m) (list_all (vouches keys f n d) ms) e in
    All-cons (IsVoucher keys f n d) m ms (is_voucher keys f n d m parts.0) (each_voucher keys f n d ms parts.1)

same_length : {A B : Type 0} (f : A → B) (xs : List A) → length (map f xs) ≡ length xs
same_length f [] = refl
same_length f (x ∷ xs) = ap suc (same_length f xs)

-- what a stable checkpoint has that is shown
pub record Vouched (keys : Keys) (f : ℕ) (c : StableCheckpoint) : Type 0 where
  pub each : All (IsVoucher keys f c.number c.digest) (checkpoints_in c)
  pub differ : senders_differ (checkpoints_in c) ≡ true
  pub enough : 2 * f + 1 ≤ length (checkpoints_in c)

pub vouched : (keys : Keys) (f : ℕ) (c : StableCheckpoint) → is_shown keys f c ≡ true → Vouched keys f c
vouched keys f c e =
    let a = and_parts (list_all (vouches keys f c.number c.digest) (checkpoints_in c)) _ e in
    let b = and_parts (senders_differ (checkpoints_in c)) (leb (2 * f + 1) (length c.checkpoints)) a.1 in
    record {
      each = each_voucher keys f c.number c.digest (checkpoints_in c) a.0;
      differ = b.0;
      enough = omega (arith, leb-true (2 * f + 1) (length c.checkpoints) b.1, same_length (as_message Checkpoint) c.checkpoints);
    }

-- Counting -------------------------------------------------------------------------------------------------------------

or_right_true : (a b : Bool) → b ≡ true → (a || b) ≡ true
or_right_true true b e = refl
or_right_true false b e = e

-- a number more that passes
one_more : (a : ℕ) (p : ℕ → Bool) (n : ℕ) → a < n → p a ≡ false → 1 + count_below p n ≤ count_below (λ k. eqb a k || p k) n
one_more a p zero lt none = absurd (omega (arith, lt))
one_more a p (suc n) lt none = go (eqb a n) (p n) refl refl (one_more a p n)
  where
    wider : count_below p n ≤ count_below (λ k. eqb a k || p k) n
    wider = more p (λ k. eqb a k || p k) n (λ k is. or_right_true (eqb a k) (p k) is)

    go : (e b : Bool) → eqb a n ≡ e → p n ≡ b → (a < n → p a ≡ false → 1 + count_below p n ≤ count_below (λ k. eqb a k || p k) n)
        → 1 + cond b (1 + count_below p n) (count_below p n) ≤ cond (e || b) (1 + count_below (λ k. eqb a k || p k) n) (count_below (λ k. eqb a k || p k) n)
    go true true is passes below = let same = ap p (eqb-true a n is) in absurd (cc (same, none, passes))
    go true false is passes below = omega (arith, wider)
    go false b is passes below = other b (below (omega (arith, lt, eqb-false a n is)) none)
      where
        other : (b : Bool) → 1 + count_below p n ≤ count_below (λ k. eqb a k || p k) n
            → 1 + cond b (1 + count_below p n) (count_below p n) ≤ cond b (1 + count_below (λ k. eqb a k || p k) n) (count_below (λ k. eqb a k || p k) n)
        other true le = omega (arith, le)
        other false le = le

pub senders_counted : (n : ℕ) (ms : Log) → All (λ m. (header m).sender < n) ms → senders_differ ms ≡ true → length ms ≤ count_below (has_sender ms) n
senders_counted n [] all differ = omega arith
senders_counted n (m ∷ ms) all differ =
    let parts = and_parts (not (has_sender ms (header m).sender)) (senders_differ ms) differ in
    let rest = senders_counted n ms (All-tail (λ m. (header m).sender < n) m ms all) parts.1 in
    let one = one_more (header m).sender (has_sender ms) n (All-head (λ m. (header m).sender < n) m ms all) (not-true (has_sender ms (header m).sender) parts.0) in
    omega (arith, rest, one)

pub count_within : (p : ℕ → Bool) (n : ℕ) → count_below p n ≤ n
count_within p zero = omega arith
count_within p (suc n) = go (p n) (count_within p n)
  where
    go : (b : Bool) → count_below p n ≤ n → cond b (1 + count_below p n) (count_below p n) ≤ suc n
    go true le = omega (arith, le)
    go false le = omega (arith, le)

-- more than there are replicas can't all be of different ones
pub too_many : (keys : Keys) (f : ℕ) (c : StableCheckpoint) → f ≤ most_faults → most_replicas < length c.checkpoints → is_shown keys f c ≡ false
too_many keys f c few many =
    false_from_ne_true (is_shown keys f c)
    (λ e.
    let is = vouched keys f c e in
    let ms = checkpoints_in c in
    let counted = senders_counted (replicas f) ms (All-weaker (IsVoucher keys f c.number c.digest) (λ m. (header m).sender < replicas f) (λ m v. v.sender) ms is.each) is.differ in
    let most = count_within (has_sender ms) (replicas f) in
    absurd (omega (arith, counted, most, few, many, same_length (as_message Checkpoint) c.checkpoints)))
