-- The premises of the laws hold in a run.
use Rattle.std.proofs.Common.{◌≡◌, ℕ, zero, suc, ◌+◌, ◌<◌, ◌≤◌, true, false, List, [], ◌∷◌, inl, inr, refl, arith}
use Rattle.std.specs.List.{list_all}
use Rattle.std.proofs.lemmas.Bool.{and_parts, ltb-true}
use Rattle.bfs_votes.specs.Votes.{Header, told, Told, replicas, primary}
use Rattle.bfs_agreement.proofs.Public.{told_cases, moved}
use Rattle.bfs_agreement.specs.Examples.{silent}
use Rattle.bfs_progress.specs.Premises.{reached}
use Rattle.bfs_progress.specs.Members.{IsQuorum}
use Rattle.bfs_progress.specs.Examples.{present, lossy, then_heard, scattered, claimed, then_followed, HoldInAView, HoldBetweenViews}

-- what holds at 0, 1 and 2 holds at each that is present
pub each_present : (P : ℕ → Type 0) → P 0 → P 1 → P 2 → (k : ℕ) → present k ≡ true → P k
each_present P a b c zero x = a
each_present P a b c (suc zero) x = b
each_present P a b c (suc (suc zero)) x = c
each_present P a b c (suc (suc (suc k))) x = let lt = ltb-true (suc (suc (suc k))) 3 x in absurd (omega (arith, lt))

-- each message of one log another tells too
abbrev Covers : (log new : List Header) → Type 0
Covers log new = list_all (λ h. told new h.tag h.sender h.view h.number h.digest) log ≡ true

heard_if : (log new : List Header) → Covers log new → (t k v n : ℕ) (d : List ℕ) → Told log t k v n d → Told new t k v n d
heard_if [] new all t k v n d x = absurd cc
heard_if (h ∷ log) new all t k v n d x =
    let a = and_parts (told new h.tag h.sender h.view h.number h.digest) (list_all (λ h. told new h.tag h.sender h.view h.number h.digest) log) all in
    elim (told_cases h log t k v n d x) [
      | inl is ↦ moved h t k v n d is (λ t k v n d. Told new t k v n d) a.0
      | inr later ↦ heard_if log new a.1 t k v n d later
    ]

pub present_quorum : (view : ℕ) → present (primary 1 view) ≡ true → IsQuorum 1 silent present view
present_quorum view leads =
    record {
      enough = omega arith;
      correct = each_present (λ k. silent k ≡ false) refl refl refl;
      among = each_present (λ k. k < replicas 1) (omega arith) (omega arith) (omega arith);
      leads = leads;
    }

pub in_a_view : HoldInAView
in_a_view =
    let w = reached 1 [] lossy in
    let log = λ (k : ℕ). (reached 1 [] then_heard k).now.log in (
      record { others = omega arith; few = omega arith; authentic = (tt, (λ _. inl refl, tt)); offered = (tt, (tt, tt)) },
      record { quorum = present_quorum 0 refl; entered = each_present (λ k. (w k).now.view ≡ 0) refl refl refl; asked = each_present (λ k. (w k).now.asked ≡ 0) refl refl refl },
      record {
        low = each_present (λ k. (w k).now.low < 1) (omega arith) (omega arith) (omega arith);
        min_s = each_present (λ k. (w k).now.min_s < 1) (omega arith) (omega arith) (omega arith);
        high = each_present (λ k. 1 ≤ (w k).now.low + 32) (omega arith) (omega arith) (omega arith);
      },
      refl,
      λ i j t d in_i in_j. heard_if (log i) (log j) (each_present (λ a. (b : ℕ) → present b ≡ true → Covers (log a) (log b))
          (each_present (λ b. Covers (log 0) (log b)) refl refl refl) (each_present (λ b. Covers (log 1) (log b)) refl refl refl) (each_present (λ b. Covers (log 2) (log b)) refl refl refl) i in_i j in_j) t i 0 1 d,
    )

pub between_views : HoldBetweenViews
between_views =
    let w = reached 1 [] scattered in
    let new = reached 1 [] then_followed in (
      record { others = omega arith; few = omega arith; authentic = (tt, (tt, (tt, (tt, (tt, tt))))); offered = (tt, (tt, (tt, (tt, (tt, tt))))) },
      record {
        quorum = present_quorum 2 refl;
        asked = each_present (λ k. (w k).now.asked ≤ 2) (omega arith) (omega arith) (omega arith);
        before = each_present (λ k. (w k).now.view < 2) (omega arith) (omega arith) (omega arith);
      },
      λ j k x. each_present (λ k. claimed j k ≡ (w k).now.asked) refl refl refl k,
      omega arith,
      record {
        quorum = present_quorum 2 refl;
        asked = each_present (λ k. (new k).now.asked ≡ 2) refl refl refl;
        before = each_present (λ k. (new k).now.view < 2) (omega arith) (omega arith) (omega arith);
      },
    )
