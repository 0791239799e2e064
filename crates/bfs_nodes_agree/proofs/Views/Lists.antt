-- What is in a list, and what a list of messages tells.
use Rattle.std.proofs.Common.{◌≡◌, ℕ, zero, suc, ◌+◌, ◌≤◌, Bool, true, List, [], ◌∷◌, inl, inr, refl, sym, subst, arith}
use Rattle.std.specs.Prelude.{All, Contains, map}
use Rattle.std.specs.List.{list_all, range_with_len}
use Rattle.std.proofs.lemmas.Bool.{and_parts, or_cases}
use Rattle.std.proofs.lemmas.List.Elements.{All-nil, All-cons, All-weaker, All-contains, Contains-push, Contains-append_left, Contains-append_right}
use Rattle.bfs_votes.specs.Votes.{Header, says, told, Told}
use Rattle.bfs_agreement.specs.Histories.{IsIn}
use Rattle.bfs_agreement.proofs.Public.{Is, says_is}

pub all_in : {A : Type 0} (xs : List A) → All (λ y. IsIn y xs) xs
all_in [] = All-nil (λ y. IsIn y [])
all_in (x ∷ xs) = All-cons (λ y. IsIn y (x ∷ xs)) x xs (inl refl) (All-weaker (λ y. IsIn y xs) (λ y. IsIn y (x ∷ xs)) (λ y i. inr i) xs (all_in xs))

pub is_in : {A : Type 0} (xs : List A) (x : A) → Contains xs x → IsIn x xs
is_in xs x c = All-contains (λ y. IsIn y xs) xs x (all_in xs) c

pub contains : {A : Type 0} (xs : List A) (x : A) → IsIn x xs → Contains xs x
contains [] x i = absurd i
contains (y ∷ ys) x i = elim i [
  | inl e ↦ subst (λ z. Contains (y ∷ ys) z) (sym e) (Contains-append_left (y ∷ []) ys y (Contains-push [] y))
  | inr j ↦ Contains-append_right (y ∷ []) ys x (contains ys x j)
]

pub at_in : {A : Type 0} (P : A → Type 0) (xs : List A) → All P xs → (x : A) → IsIn x xs → P x
at_in P xs all x i = All-contains P xs x all (contains xs x i)

pub in_map : {A B : Type 0} (g : A → B) (xs : List A) (x : A) → IsIn x xs → IsIn (g x) (map g xs)
in_map g [] x i = absurd i
in_map g (y ∷ ys) x i = elim i [ inl e ↦ subst (λ z. IsIn (g z) (map g (y ∷ ys))) (sym e) (inl refl) | inr j ↦ inr (in_map g ys x j) ]

pub out_of_map : {A B : Type 0} (g : A → B) (xs : List A) (z : B) → IsIn z (map g xs) → (x : A) × IsIn x xs × (z ≡ g x)
out_of_map g [] z i = absurd i
out_of_map g (y ∷ ys) z i = elim i [ inl e ↦ (y, inl refl, e) | inr j ↦ let got = out_of_map g ys z j in (got.0, inr got.1, got.2) ]

pub map_in : {A B : Type 0} (P : B → Type 0) (g : A → B) (xs : List A) → ((x : A) → IsIn x xs → P (g x)) → (y : B) → IsIn y (map g xs) → P y
map_in P g xs each y i = let from = out_of_map g xs y i in subst P (sym from.2) (each from.0 from.1)

pub in_range : (from count n : ℕ) → IsIn n (range_with_len from count) → from ≤ n
in_range from zero n i = absurd i
in_range from (suc count) n i = elim i [ inl e ↦ omega (arith, e) | inr j ↦ let le = in_range (from + 1) count n j in omega (arith, le) ]

-- who tells it
pub told_in : (hs : List Header) (t k v n : ℕ) (d : List ℕ) → Told hs t k v n d → (h : Header) × IsIn h hs × Is h t k v n d
told_in [] t k v n d e = absurd cc
told_in (h ∷ hs) t k v n d e = elim (or_cases (says t k v n d h) (told hs t k v n d) e) [
  | inl a ↦ (h, inl refl, says_is t k v n d h a)
  | inr b ↦ let got = told_in hs t k v n d b in (got.0, inr got.1, got.2)
]

pub passes_at : {A : Type 0} (p : A → Bool) (xs : List A) (x : A) → list_all p xs ≡ true → IsIn x xs → p x ≡ true
passes_at p [] x e i = absurd i
passes_at p (y ∷ ys) x e i =
    let a = and_parts (p y) (list_all p ys) e in
    elim i [ inl s ↦ subst (λ z. p z ≡ true) (sym s) a.0 | inr j ↦ passes_at p ys x a.1 j ]

-- by what a header is
pub as_it_is : (P : (t k v n : ℕ) → List ℕ → Type 0) (h : Header) (t k v n : ℕ) (d : List ℕ) → Is h t k v n d → P h.tag h.sender h.view h.number h.digest → P t k v n d
as_it_is P h t k v n d is x =
    subst (λ (e : List ℕ). P t k v n e) is.digest (subst (λ (m : ℕ). P t k v m h.digest) is.number (subst (λ (u : ℕ). P t k u h.number h.digest) is.view
    (subst (λ (j : ℕ). P t j h.view h.number h.digest) is.sender (subst (λ (s : ℕ). P s h.sender h.view h.number h.digest) is.tag x))))
