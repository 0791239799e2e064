-- CHECKPOINTs of 2f + 1 nodes are collected, and what is collected is shown.
use Rattle.std.proofs.Common.{◌≡◌, ℕ, zero, suc, ◌+◌, ◌*◌, ◌≤◌, Bool, true, cond, eqb, ◌&&◌, List, [], ◌∷◌, length, Some, None, inl, inr, refl, sym, ap, subst, arith}
use Rattle.std.specs.Prelude.{nat_le}
use Rattle.std.specs.List.{Contains, list_all}
use Rattle.std.proofs.lemmas.Bool.{and_from, le-leb}
use Rattle.std.proofs.lemmas.List.{length-map}
use Rattle.bfs_auth.specs.Keys.{Keys}
use Rattle.bfs_checkpoints.specs.Collecting.{collected, right_checkpoints}
use Rattle.bfs_checkpoints.specs.Laws.{RightCheckpointsAreCollected}
use Rattle.bfs_log.specs.Certificates.{StableCheckpoint, as_checkpoints, has_sender, is_shown, senders_differ, vouches}
use Rattle.bfs_log.specs.Headers.{header}
use Rattle.bfs_log.specs.Logs.{Log}
use Rattle.bfs_messages.specs.Messages as model
use Rattle.bfs_messages.specs.Signing.{as_message}
use Rattle.bfs_messages.specs.declared.signed.Signed.{Signed}
use Rattle.bfs_messages.specs.declared.order_messages.OrderMessage.TheVariants.{Checkpoint}
use Rattle.bfs_votes.specs.Votes.{count_below, replicas}
use Rattle.bfs_votes.proofs.Public.{either_below, more, none_below, once_below}
use Rattle.bfs_agreement.specs.Histories.{IsIn}

pub in_contains : {A : Type 0} (xs : List A) (x : A) → IsIn x xs → Contains xs x
in_contains [] x i = absurd i
in_contains (y ∷ xs) x i = elim i [
  | inl e ↦ (0, omega arith, sym e)
  | inr j ↦ let got = in_contains xs x j in let low = got.1 in (suc got.0, omega (arith, low), got.2)
]

pub contains_in : {A : Type 0} (xs : List A) (x : A) → Contains xs x → IsIn x xs
contains_in [] x (k, low, is) = absurd (omega (arith, low))
contains_in (y ∷ xs) x (zero, low, is) = inl (sym is)
contains_in (y ∷ xs) x (suc k, low, is) = inr (contains_in xs x (k, omega (arith, low), is))

-- no more senders than messages
senders_few : (ms : Log) (n : ℕ) → count_below (λ k. has_sender ms k) n ≤ length ms
senders_few [] n = let none : count_below (λ k. has_sender [] k) n ≡ 0 = none_below (λ k. has_sender [] k) n (λ k. refl) in omega (arith, none)
senders_few (m ∷ ms) n =
    let both : count_below (λ k. has_sender (m ∷ ms) k) n ≤ count_below (λ k. eqb (header m).sender k) n + count_below (λ k. has_sender ms k) n =
    either_below (λ k. eqb (header m).sender k) (λ k. has_sender ms k) n in
    let one = once_below (header m).sender n in
    let rest = senders_few ms n in
    omega (arith, both, one, rest)

module _ (laws : RightCheckpointsAreCollected) (keys : Keys) (f number : ℕ) (digest : List ℕ) (told : List (Signed model.Checkpoint)) (tellers : ℕ → Bool) (enough : 2 * f + 1 ≤ count_below tellers (replicas f))
    (each : (k : ℕ) → tellers k ≡ true → (c : Signed model.Checkpoint) × IsIn c told × (c.message.sender ≡ k) × (vouches keys f number digest (as_message Checkpoint c) ≡ true)) where
  abbrev pub right : List (Signed model.Checkpoint)
  right = right_checkpoints keys f number digest told

  abbrev pub made : StableCheckpoint
  made = record { number = number; digest = digest; checkpoints = right }

  many : 2 * f + 1 ≤ length right
  many =
      let ones = laws keys f number digest told in
      let all = more tellers (λ k. has_sender (as_checkpoints right) k) (replicas f) (λ k x.
      let h = each k x in
      subst (λ (i : ℕ). has_sender (as_checkpoints right) i ≡ true) h.2 (ones.all h.0 (in_contains told h.0 h.1) h.3)) in
      let few = senders_few (as_checkpoints right) (replicas f) in
      let same = length-map right (as_message Checkpoint) in
      omega (arith, enough, all, few, same)

  pub collects : collected keys f number digest told ≡ Some made
  collects = ap (λ (b : Bool). cond b (Some made) None) (le-leb (2 * f + 1) (length right) many)

  pub made_shown : is_shown keys f made ≡ true
  made_shown =
      let ones = laws keys f number digest told in
      and_from (list_all (vouches keys f number digest) (as_checkpoints right)) (senders_differ (as_checkpoints right) && nat_le (2 * f + 1) (length right)) ones.each
      (and_from (senders_differ (as_checkpoints right)) (nat_le (2 * f + 1) (length right)) ones.differ (le-leb (2 * f + 1) (length right) many))

  pub made_told : (c : Signed model.Checkpoint) → IsIn c right → IsIn c told
  made_told c i = contains_in told c ((laws keys f number digest told).were_told c (in_contains right c i))
