-- One message more tells for one sender more at most.
use Rattle.std.proofs.Common.{◌≡◌, ℕ, ◌+◌, ◌*◌, ◌≤◌, Bool, true, false, ◌||◌, inl, inr, eqb, List, [], ◌∷◌, ◌++◌, refl, subst, ◌∙◌, arith}
use Rattle.std.proofs.lemmas.Bool.{and_parts, eq-eqb, leb-true, leb-false, or_cases, or_left, or_right}
use Rattle.bfs_votes.specs.Votes.{is_stable, replicas, says, tellers, told}
use Rattle.bfs_votes.proofs.Public.{either_below, more, once_below}
use Rattle.bfs_log.specs.Headers.{header}
use Rattle.bfs_log.specs.Logs.{Log, headers}
use Rattle.bfs_messages.specs.declared.signed.Signed.{Signed}
use Rattle.bfs_messages.specs.declared.order_messages.OrderMessage.{OrderMessage}
use Rattle.bfs_order.specs.Replica.Accepting.{makes_stable}
use Rattle.bfs_order.specs.Replica.Checkpoints.{OneMoreIsTooFew, is_nearly_stable}
use Rattle.bfs_order.specs.Replica.States.{State, known, with_message}
use Rattle.bfs_order.proofs.Telling.{says_is, told_cases}

told_or_sent : (log : Log) (m : Signed OrderMessage) (t k v n : ℕ) (d : List ℕ) → told (headers (log ++ m ∷ [])) t k v n d ≡ true
    → (told (headers log) t k v n d || eqb (header m).sender k) ≡ true
told_or_sent log m t k v n d e = elim (told_cases log (m ∷ []) t k v n d e) [
  | inl before ↦ or_left (told (headers log) t k v n d) (eqb (header m).sender k) before
  | inr own ↦ elim (or_cases (says t k v n d (header m)) false own) [
    | inl says ↦ or_right (told (headers log) t k v n d) (eqb (header m).sender k) (eq-eqb (header m).sender k (says_is (header m) t k v n d says).sender)
    | inr never ↦ absurd cc
  ]
]

-- tellers of a log with one message more
pub one_teller_more : (f : ℕ) (log : Log) (m : Signed OrderMessage) (t v n : ℕ) (d : List ℕ) → tellers f (headers (log ++ m ∷ [])) t v n d ≤ tellers f (headers log) t v n d + 1
one_teller_more f log m t v n d =
    let wider = more (λ k. told (headers (log ++ m ∷ [])) t k v n d) (λ k. told (headers log) t k v n d || eqb (header m).sender k) (replicas f)
    (λ k e. told_or_sent log m t k v n d e) in
    let apart = either_below (λ k. told (headers log) t k v n d) (λ k. eqb (header m).sender k) (replicas f) in
    let once = once_below (header m).sender (replicas f) in
    omega (arith, wider, apart, once)

pub nearly_stable : (s : State) (n : ℕ) (d : List ℕ) → is_nearly_stable s n d ≡ false → OneMoreIsTooFew s n d
nearly_stable s n d few m number digest = go (makes_stable (with_message s m) (header m)) refl
  where
    stable_at : (b : Bool) → makes_stable (with_message s m) (header m) ≡ b → b ≡ true → 2 * s.f + 1 ≤ tellers s.f (headers (s.log ++ m ∷ [])) 5 0 n d
    stable_at b is e =
        let parts = and_parts (eqb (header m).tag 5) (is_stable s.f (known (with_message s m)) (header m).number (header m).digest) (is ∙ e) in
        let there = leb-true (2 * s.f + 1) (tellers s.f (headers (s.log ++ m ∷ [])) 5 0 (header m).number (header m).digest) parts.1 in
        subst (λ (x : ℕ). 2 * s.f + 1 ≤ tellers s.f (headers (s.log ++ m ∷ [])) 5 0 x d) number
        (subst (λ (x : List ℕ). 2 * s.f + 1 ≤ tellers s.f (headers (s.log ++ m ∷ [])) 5 0 (header m).number x) digest there)

    go : (b : Bool) → makes_stable (with_message s m) (header m) ≡ b → b ≡ false
    go false is = refl
    go true is =
        let much = stable_at true is refl in
        let few_now = leb-false (2 * s.f) (tellers s.f (known s) 5 0 n d) few in
        absurd (omega (arith, much, few_now, one_teller_more s.f s.log m 5 0 n d))
