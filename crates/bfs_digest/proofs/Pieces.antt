-- Pieces that are fed to a hasher, or appended to a text, one after another.
use Rattle.std.proofs.Common.{◌≡◌, ℕ, List, [], ◌∷◌, ◌++◌, sym, ap, subst, ◌∙◌, append_assoc, append-nil}
use Rattle.std.specs.List.{flat_map}

-- what a hasher holds is followed by these bytes
abbrev pub Takes : {H : Type 0} → (H → List ℕ → Type 0) → (before after : H) → List ℕ → Type 0
Takes Holds before after bytes = (m : List ℕ) → Holds before m → Holds after (m ++ bytes)

pub nothing_taken : {H : Type 0} (Holds : H → List ℕ → Type 0) (h : H) → Takes Holds h h []
nothing_taken Holds h m holds = subst (Holds h) (sym (append-nil m)) holds

pub both_taken : {H : Type 0} (Holds : H → List ℕ → Type 0) (before now after : H) (first second : List ℕ) → Takes Holds before now first → Takes Holds now after second → Takes Holds before after (first ++ second)
both_taken Holds before now after first second one two m holds = subst (Holds after) (append_assoc m first second) (two (m ++ first) (one m holds))

-- the pieces so far, with those that are left, are all of them
pub record Fed {H X : Type 0} (Holds : H → List ℕ → Type 0) (text : X → List ℕ) (before now : H) (rest all : List X) : Type 0 where
  pub done : List ℕ
  pub total : done ++ flat_map text rest ≡ flat_map text all
  pub holds : Takes Holds before now done

pub fed_none : {H X : Type 0} (Holds : H → List ℕ → Type 0) (text : X → List ℕ) (h : H) (all rest : List X) → rest ≡ all → Fed Holds text h h rest all
fed_none Holds text h all rest is = record { done = []; total = ap (flat_map text) is; holds = nothing_taken Holds h }

pub fed_more : {H X : Type 0} (Holds : H → List ℕ → Type 0) (text : X → List ℕ) (before now after : H) (xs rest all : List X) (x : X) → xs ≡ x ∷ rest → Takes Holds now after (text x)
    → Fed Holds text before now xs all → Fed Holds text before after rest all
fed_more Holds text before now after xs rest all x is more fed = record {
  done = fed.done ++ text x;
  total = append_assoc fed.done (text x) (flat_map text rest) ∙ ap (λ ys. fed.done ++ flat_map text ys) (sym is) ∙ fed.total;
  holds = both_taken Holds before now after fed.done (text x) fed.holds more;
}

pub fed_all : {H X : Type 0} (Holds : H → List ℕ → Type 0) (text : X → List ℕ) (before after : H) (rest all : List X) → rest ≡ [] → Fed Holds text before after rest all → Takes Holds before after (flat_map text all)
fed_all Holds text before after rest all is fed m holds =
    subst (λ bytes. Holds after (m ++ bytes)) (sym (append-nil fed.done) ∙ ap (λ ys. fed.done ++ flat_map text ys) (sym is) ∙ fed.total) (fed.holds m holds)

-- The same of a text -------------------------------------------------------------------------------------------------

pub put_more : {X : Type 0} (text : X → List ℕ) (out more all : List ℕ) (xs rest : List X) (x : X) → xs ≡ x ∷ rest → more ≡ out ++ text x → out ++ flat_map text xs ≡ all → more ++ flat_map text rest ≡ all
put_more text out more all xs rest x is appended so_far =
    ap (λ bytes. bytes ++ flat_map text rest) appended ∙ append_assoc out (text x) (flat_map text rest) ∙ ap (λ ys. out ++ flat_map text ys) (sym is) ∙ so_far

pub put_all : {X : Type 0} (text : X → List ℕ) (out all : List ℕ) (rest : List X) → rest ≡ [] → out ++ flat_map text rest ≡ all → out ≡ all
put_all text out all rest is so_far = sym (append-nil out) ∙ ap (λ ys. out ++ flat_map text ys) (sym is) ∙ so_far
