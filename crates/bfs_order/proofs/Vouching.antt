-- The messages of a certificate make its checkpoint stable.
use Rattle.std.proofs.Common.{◌≡◌, ◌⊎◌, inl, inr, ℕ, ◌+◌, ◌*◌, ◌<◌, true, false, eqb, not, List, [], ◌∷◌, arith}
use Rattle.std.specs.Prelude.{All}
use Rattle.std.proofs.lemmas.Bool.{and_parts, or_cases, or_left, or_right, eqb-true, eq-eqb, le-leb, not-true, false_from_ne_true}
use Rattle.std.proofs.lemmas.List.Elements.{All-head, All-tail, All-weaker}
use Rattle.bfs_auth.specs.Keys.{Keys}
use Rattle.bfs_votes.specs.Votes.{SlotsDiffer, has_slot, is_slot, is_taken, replicas, tellers, Told, told, says}
use Rattle.bfs_log.specs.Headers.{header}
use Rattle.bfs_log.specs.Logs.{Log, headers}
use Rattle.bfs_log.proofs.Public.{IsVoucher, no_view, senders_counted, vouched}
use Rattle.bfs_order.proofs.Telling.{is_said, slot_is}
use Rattle.bfs_order.specs.Laws.Certificates.{CertificatesMakeStable}
use Rattle.bfs_log.specs.Certificates.{IsCheckpointOf, checkpoints_in, has_sender, senders_differ}
use Rattle.bfs_votes.proofs.Public.{more}

-- each sender tells it
sender_tells : (keys : Keys) (f n : ℕ) (d : List ℕ) (ms : Log) → All (IsVoucher keys f n d) ms → (k : ℕ) → has_sender ms k ≡ true → Told (headers ms) 5 k 0 n d
sender_tells keys f n d [] all k e = absurd cc
sender_tells keys f n d (m ∷ ms) all k e =
    go (or_cases (eqb (header m).sender k) (has_sender ms k) e) (sender_tells keys f n d ms (All-tail (IsVoucher keys f n d) m ms all) k)
  where
    is : IsVoucher keys f n d m
    is = All-head (IsVoucher keys f n d) m ms all

    go : (eqb (header m).sender k ≡ true) ⊎ (has_sender ms k ≡ true) → (has_sender ms k ≡ true → Told (headers ms) 5 k 0 n d) → Told (headers (m ∷ ms)) 5 k 0 n d
    go (inl same) later =
        or_left (says 5 k 0 n d (header m)) (told (headers ms) 5 k 0 n d)
        (is_said (header m) 5 k 0 n d (record { tag = is.tag; sender = eqb-true (header m).sender k same; view = no_view m.message is.tag; number = is.number; digest = is.digest }))
    go (inr there) later = or_right (says 5 k 0 n d (header m)) (told (headers ms) 5 k 0 n d) (later there)

-- who has a place is a sender
slot_sent : (ms : Log) (t k v n : ℕ) → has_slot (headers ms) t k v n ≡ true → has_sender ms k ≡ true
slot_sent [] t k v n e = absurd cc
slot_sent (m ∷ ms) t k v n e = go (or_cases (is_slot t k v n (header m)) (has_slot (headers ms) t k v n) e) (slot_sent ms t k v n)
  where
    go : (is_slot t k v n (header m) ≡ true) ⊎ (has_slot (headers ms) t k v n ≡ true) → (has_slot (headers ms) t k v n ≡ true → has_sender ms k ≡ true) → has_sender (m ∷ ms) k ≡ true
    go (inl here) later = or_left (eqb (header m).sender k) (has_sender ms k) (eq-eqb (header m).sender k (slot_is (header m) t k v n here).sender)
    go (inr there) later = or_right (eqb (header m).sender k) (has_sender ms k) (later there)

slots_differ : (ms : Log) → senders_differ ms ≡ true → SlotsDiffer (headers ms)
slots_differ [] e = tt
slots_differ (m ∷ ms) e =
    let parts = and_parts (not (has_sender ms (header m).sender)) (senders_differ ms) e in
    (free (not-true (has_sender ms (header m).sender) parts.0), slots_differ ms parts.1)
  where
    free : has_sender ms (header m).sender ≡ false → is_taken (headers ms) (header m) ≡ false
    free none =
        false_from_ne_true (is_taken (headers ms) (header m))
        (λ taken. let sent = slot_sent ms (header m).tag (header m).sender (header m).view (header m).number taken in absurd (cc (none, sent)))

pub makes_stable : CertificatesMakeStable
makes_stable keys f c e =
    let is = vouched keys f c e in
    let ms = checkpoints_in c in
    let n = c.number in
    let d = c.digest in
    let enough = is.enough in
    let counted = senders_counted (replicas f) ms (All-weaker (IsVoucher keys f n d) (λ m. (header m).sender < replicas f) (λ m v. v.sender) ms is.each) is.differ in
    let most = more (has_sender ms) (λ k. told (headers ms) 5 k 0 n d) (replicas f) (λ k sent. sender_tells keys f n d ms is.each k sent) in
    record {
      stable = le-leb (2 * f + 1) (tellers f (headers ms) 5 0 n d) (omega (arith, enough, counted, most));
      all = All-weaker (IsVoucher keys f n d) (IsCheckpointOf n d) (λ m v. record { tag = v.tag; number_is = v.number; digest_is = v.digest }) ms is.each;
      differ = slots_differ ms is.differ;
    }
