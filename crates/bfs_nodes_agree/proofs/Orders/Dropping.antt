-- What a stable checkpoint drops of a log, it drops of the history's log.
use Rattle.std.proofs.Common.{◌≡◌, ℕ, ◌==◌, Bool, true, false, cond, ◌&&◌, ◌||◌, List, [], ◌∷◌, ◌++◌, inl, inr, refl, sym, ap, ◌∙◌}
use Rattle.std.specs.Prelude.{nat_lt, filter, bytes_eq}
use Rattle.std.specs.List.{list_any, list_all}
use Rattle.std.proofs.lemmas.Bool.{and_parts, cond_both, cases_Bool, eqb-true}
use Rattle.std.proofs.Math.Bool.{and-false, or-false}
use mathlib.Core.Path.{fun_ext}
use Rattle.bfs_auth.specs.Keys.{Keys}
use Rattle.bfs_votes.specs.Votes.{Header, is_taken}
use Rattle.bfs_log.specs.Headers.{header}
use Rattle.bfs_log.specs.Logs.{Log, headers, stays, kept_after}
use Rattle.bfs_messages.specs.declared.signed.Signed.{Signed}
use Rattle.bfs_messages.specs.declared.order_messages.OrderMessage.{OrderMessage}
use Rattle.bfs_log.specs.Certificates.{vouches}
use Rattle.bfs_order.specs.Replica.Installing.{with_new, with_each}
use Rattle.bfs_agreement.specs.Histories.{IsIn}
use Rattle.bfs_agreement.specs.Moves.{kept_above}
use Rattle.bfs_nodes_agree.specs.Orders.Following.{HaveTheSameVotes}
use Rattle.bfs_nodes_agree.proofs.Orders.Telling.{any_both}

any_kept : (test keep : Header → Bool) (log : Log) → list_any test (headers (filter (λ m. keep (header m)) log)) ≡ list_any (λ h. keep h && test h) (headers log)
any_kept test keep [] = refl
any_kept test keep (m ∷ log) =
    let rest = filter (λ (m : Signed OrderMessage). keep (header m)) log in
    let e = any_kept test keep log in
    elim (keep (header m)) as (λ b. list_any test (headers (cond b (m ∷ rest) rest)) ≡ ((b && test (header m)) || list_any (λ h. keep h && test h) (headers log))) [
      | true ↦ ap (λ (b : Bool). test (header m) || b) e
      | false ↦ e
    ]

any_above : (test : Header → Bool) (n : ℕ) (log : List Header) → list_any test (kept_above n log) ≡ list_any (λ h. nat_lt n h.number && test h) log
any_above test n [] = refl
any_above test n (h ∷ log) =
    let e = any_above test n log in
    elim (nat_lt n h.number) as (λ b. list_any test (cond b (h ∷ kept_above n log) (kept_above n log)) ≡ ((b && test h) || list_any (λ h. nat_lt n h.number && test h) log)) [
      | true ↦ ap (λ (b : Bool). test h || b) e
      | false ↦ e
    ]

-- a CHECKPOINT is no matter to a test of votes
stays_above : (n : ℕ) (d : List ℕ) (test : Header → Bool) → ((h : Header) → h.tag ≡ 5 → test h ≡ false) → (h : Header) → (stays n d h && test h) ≡ (nat_lt n h.number && test h)
stays_above n d test votes h = elim (cases_Bool (h.tag == 5)) [
  | inl e ↦
      let none = votes h (eqb-true h.tag 5 e) in
      ap (λ (b : Bool). stays n d h && b) none ∙ and-false (stays n d h) ∙ sym (and-false (nat_lt n h.number)) ∙ ap (λ (b : Bool). nat_lt n h.number && b) (sym none)
  | inr e ↦
      ap (λ (b : Bool). (nat_lt n h.number || (b && ((h.number == n) && bytes_eq h.digest d))) && test h) e ∙ ap (λ (b : Bool). b && test h) (or-false (nat_lt n h.number))
]

pub dropped : (n : ℕ) (d : List ℕ) (log : Log) (other : List Header) → HaveTheSameVotes (headers log) other → HaveTheSameVotes (headers (kept_after n d log)) (kept_above n other)
dropped n d log other same test votes =
    any_kept test (stays n d) log
    ∙ ap (λ (p : Header → Bool). list_any p (headers log)) (fun_ext (λ h. stays_above n d test votes h))
    ∙ same (λ h. nat_lt n h.number && test h) (λ h five. ap (λ (b : Bool). nat_lt n h.number && b) (votes h five) ∙ and-false (nat_lt n h.number))
    ∙ sym (any_above test n other)

pub in_kept : (n : ℕ) (log : List Header) (x : Header) → IsIn x (kept_above n log) → IsIn x log
in_kept n [] x = λ i. i
in_kept n (h ∷ log) x = cond_both (nat_lt n h.number) (h ∷ kept_above n log) (kept_above n log) (λ (l : List Header). IsIn x l → IsIn x (h ∷ log))
    (λ _ i. elim i [ inl e ↦ inl e | inr j ↦ inr (in_kept n log x j) ])
    (λ _ i. inr (in_kept n log x i))

-- CHECKPOINTs ---------------------------------------------------------------------------------------------------------------

pub five_pushed : (log : Log) (other : List Header) (m : Signed OrderMessage) → (header m).tag ≡ 5 → HaveTheSameVotes (headers log) other → HaveTheSameVotes (headers (log ++ m ∷ [])) other
five_pushed log other m five same test votes =
    any_both test log (m ∷ []) ∙ ap (λ (b : Bool). list_any test (headers log) || (b || false)) (votes (header m) five) ∙ or-false (list_any test (headers log)) ∙ same test votes

new_five : (log : Log) (other : List Header) (m : Signed OrderMessage) → (header m).tag ≡ 5 → HaveTheSameVotes (headers log) other → HaveTheSameVotes (headers (with_new log m)) other
new_five log other m five same = cond_both (is_taken (headers log) (header m)) log (log ++ m ∷ []) (λ (l : Log). HaveTheSameVotes (headers l) other)
    (λ _. same) (λ _. five_pushed log other m five same)

pub each_five : (keys : Keys) (f n : ℕ) (d : List ℕ) (log ms : Log) (other : List Header) → list_all (vouches keys f n d) ms ≡ true → HaveTheSameVotes (headers log) other
    → HaveTheSameVotes (headers (with_each log ms)) other
each_five keys f n d log [] other all same = same
each_five keys f n d log (m ∷ ms) other all same =
    let both = and_parts (vouches keys f n d m) (list_all (vouches keys f n d) ms) all in
    let five = and_parts ((header m).tag == 5) _ both.0 in
    each_five keys f n d (with_new log m) ms other both.1 (new_five log other m (eqb-true (header m).tag 5 five.0) same)
