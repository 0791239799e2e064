-- What a log tells, one message at a time.
use Rattle.std.proofs.Common.{◌≡◌, ℕ, ◌==◌, true, ◌&&◌, List, [], ◌∷◌, bytes_eq, ◌⊎◌, inl, inr, refl}
use Rattle.std.specs.List.{list_any}
use Rattle.std.proofs.lemmas.Bool.{and_parts, or_cases, or_right, eqb-true}
use Rattle.std.proofs.lemmas.Slice.Eq.{bytes_eq-Decides}
use Rattle.bfs_votes.specs.Votes.{Header, is_slot, says, told, Told}
use Rattle.bfs_agreement.specs.Histories.{IsIn, ViewChange}

pub record Is (h : Header) (t k v n : ℕ) (d : List ℕ) : Type 0 where
  pub tag : h.tag ≡ t
  pub sender : h.sender ≡ k
  pub view : h.view ≡ v
  pub number : h.number ≡ n
  pub digest : h.digest ≡ d

pub says_is : (t k v n : ℕ) (d : List ℕ) (h : Header) → says t k v n d h ≡ true → Is h t k v n d
says_is t k v n d h e =
    let a = and_parts (is_slot t k v n h) (bytes_eq h.digest d) e in
    let b = and_parts (h.tag == t) ((h.sender == k) && ((h.view == v) && (h.number == n))) a.0 in
    let c = and_parts (h.sender == k) ((h.view == v) && (h.number == n)) b.1 in
    let g = and_parts (h.view == v) (h.number == n) c.1 in
    record { tag = eqb-true h.tag t b.0; sender = eqb-true h.sender k c.0; view = eqb-true h.view v g.0; number = eqb-true h.number n g.1; digest = (bytes_eq-Decides h.digest d).0 a.1 }

-- the head says it, or the rest
pub told_cases : (h : Header) (log : List Header) (t k v n : ℕ) (d : List ℕ) → Told (h ∷ log) t k v n d → Is h t k v n d ⊎ Told log t k v n d
told_cases h log t k v n d e = elim (or_cases (says t k v n d h) (told log t k v n d) e) [ inl a ↦ inl (says_is t k v n d h a) | inr b ↦ inr b ]

pub told_more : (h : Header) (log : List Header) (t k v n : ℕ) (d : List ℕ) → Told log t k v n d → Told (h ∷ log) t k v n d
told_more h log t k v n d e = or_right (says t k v n d h) (told log t k v n d) e

-- a VIEW-CHANGE of a sender
pub change_of : (ms : List ViewChange) (s : ℕ) → list_any (λ m. m.sender == s) ms ≡ true → (m : ViewChange) × IsIn m ms × (m.sender ≡ s)
change_of [] s e = absurd cc
change_of (m ∷ ms) s e = elim (or_cases (m.sender == s) (list_any (λ m. m.sender == s) ms) e) [
  | inl a ↦ (m, inl refl, eqb-true m.sender s a)
  | inr b ↦ let got = change_of ms s b in (got.0, inr got.1, got.2)
]
