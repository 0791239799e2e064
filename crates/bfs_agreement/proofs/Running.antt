-- The premises of the laws hold in a run with a view change.
use Rattle.std.proofs.Common.{◌≡◌, ℕ, ◌==◌, Bool, true, false, ◌&&◌, ◌||◌, List, [], ◌∷◌, ◌++◌, inl, inr, refl, sym, subst, take, arith}
use Rattle.std.specs.List.{list_all}
use Rattle.std.proofs.lemmas.Bool.{and_parts, or_cases, eqb-true}
use Rattle.bfs_votes.specs.Votes.{Header, told, Told}
use Rattle.bfs_agreement.specs.Histories.{IsIn, Certificate, ViewChange, World, WasSent}
use Rattle.bfs_agreement.specs.Moves.{new_world}
use Rattle.bfs_agreement.specs.Calls.{IsAuthentic, ChangesView, after_header_turns}
use Rattle.bfs_agreement.specs.Laws.{CallsAgree}
use Rattle.bfs_agreement.specs.Examples.{saying, silent, the_changes, in_view_0, in_view_1, IsARun, RunsAgree}
use Rattle.bfs_agreement.proofs.Told.{told_cases}
use Rattle.bfs_agreement.proofs.Said.{moved}

-- authentic, by a test
abbrev was_sent : (ℕ → Bool) → World → Header → Bool
was_sent faulty w h = faulty h.sender || (told (w h.sender).sent h.tag h.sender h.view h.number h.digest || ((h.tag == 2) && told (w h.sender).offers 2 h.sender h.view h.number h.digest))

said_if : (faulty : ℕ → Bool) (w : World) (h : Header) → was_sent faulty w h ≡ true → WasSent faulty w h.tag h.sender h.view h.number h.digest
said_if faulty w h e = λ correct. elim (or_cases (faulty h.sender) (told (w h.sender).sent h.tag h.sender h.view h.number h.digest || ((h.tag == 2) && told (w h.sender).offers 2 h.sender h.view h.number h.digest)) e) [
  | inl a ↦ absurd cc
  | inr b ↦ elim (or_cases (told (w h.sender).sent h.tag h.sender h.view h.number h.digest) ((h.tag == 2) && told (w h.sender).offers 2 h.sender h.view h.number h.digest) b) [
    | inl x ↦ inl x
    | inr y ↦ let p = and_parts (h.tag == 2) (told (w h.sender).offers 2 h.sender h.view h.number h.digest) y in inr (eqb-true h.tag 2 p.0, p.1)
  ]
]

all_said : (faulty : ℕ → Bool) (w : World) (hs : List Header) → list_all (was_sent faulty w) hs ≡ true → (t k v n : ℕ) (d : List ℕ) → Told hs t k v n d → WasSent faulty w t k v n d
all_said faulty w [] e t k v n d x = absurd cc
all_said faulty w (h ∷ hs) e t k v n d x =
    let a = and_parts (was_sent faulty w h) (list_all (was_sent faulty w) hs) e in
    elim (told_cases h hs t k v n d x) [
      | inl is ↦ moved h t k v n d is (λ t k v n d. WasSent faulty w t k v n d) (said_if faulty w h a.0)
      | inr b ↦ all_said faulty w hs a.1 t k v n d b
    ]

-- each certificate's votes
abbrev AllCertified : (ℕ → Bool) → World → List Certificate → Type 0
AllCertified faulty w [] = Unit {0}
AllCertified faulty w (c ∷ cs) = (list_all (was_sent faulty w) (c.proposal ∷ c.prepares) ≡ true) × AllCertified faulty w cs

certified_at : (faulty : ℕ → Bool) (w : World) (cs : List Certificate) → AllCertified faulty w cs → (c : Certificate) → IsIn c cs → (t k v n : ℕ) (d : List ℕ) → Told (c.proposal ∷ c.prepares) t k v n d → WasSent faulty w t k v n d
certified_at faulty w [] all c i = absurd i
certified_at faulty w (b ∷ cs) all c i = elim i [
  | inl e ↦ subst (λ (x : Certificate). (t k v n : ℕ) (d : List ℕ) → Told (x.proposal ∷ x.prepares) t k v n d → WasSent faulty w t k v n d) (sym e) (all_said faulty w (b.proposal ∷ b.prepares) all.0)
  | inr j ↦ certified_at faulty w cs all.1 c j
]

abbrev AllSent : (ℕ → Bool) → World → List ViewChange → Type 0
AllSent faulty w [] = Unit {0}
AllSent faulty w (m ∷ ms) = IsIn m (w m.sender).changes × AllCertified faulty w m.certificates × AllSent faulty w ms

all_authentic : (faulty : ℕ → Bool) (w : World) (v : ℕ) (ms : List ViewChange) → AllSent faulty w ms → IsAuthentic faulty w (ChangesView v ms)
all_authentic faulty w v [] all = λ m i. absurd i
all_authentic faulty w v (l ∷ ms) all = λ m i. elim i [
  | inl e ↦ subst (λ (x : ViewChange). (faulty x.sender ≡ false → IsIn x (w x.sender).changes) × ((c : Certificate) → IsIn c x.certificates → (t k y n : ℕ) (d : List ℕ) → Told (c.proposal ∷ c.prepares) t k y n d → WasSent faulty w t k y n d)) (sym e)
      ((λ correct. all.0), certified_at faulty w l.certificates all.1)
  | inr j ↦ all_authentic faulty w v ms all.2 m j
]

abbrev at_turn : ℕ → World
at_turn n = after_header_turns 1 [] new_world (take n (in_view_0 ++ in_view_1))

pub is_a_run : IsARun
is_a_run = (omega arith, (tt, ((λ _. inl refl), ((λ _. inl refl), ((λ _. inl refl), ((λ _. inl refl), ((λ _. inl refl), ((λ _. inl refl), ((λ _. inl refl), ((λ _. inl refl), (tt, (tt, (tt, (tt, ((all_authentic silent (at_turn 13) 1 the_changes (inl refl, (refl, tt), (inl refl, (refl, tt), (inl refl, (refl, tt), tt)))), ((all_authentic silent (at_turn 14) 1 the_changes (inl refl, (refl, tt), (inl refl, (refl, tt), (inl refl, (refl, tt), tt)))), ((all_authentic silent (at_turn 15) 1 the_changes (inl refl, (refl, tt), (inl refl, (refl, tt), (inl refl, (refl, tt), tt)))), ((λ _. inl refl), ((λ _. inl refl), ((λ _. inl refl), ((λ _. inl refl), ((λ _. inl refl), ((λ _. inl refl), (tt, tt))))))))))))))))))))))), ((_, inl refl), (_, inl refl)))

pub runs_agree : CallsAgree → IsARun → RunsAgree
runs_agree agree run =
    agree 1 [] silent (in_view_0 ++ in_view_1) run.0 run.1 1 2 (saying 2 0 0) (saying 2 1 1) run.2.0 run.2.1 refl
