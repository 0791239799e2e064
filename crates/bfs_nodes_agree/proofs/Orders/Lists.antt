-- What holds of all that is in a list.
use Rattle.std.proofs.Common.{◌≡◌, Bool, true, List, [], ◌∷◌, ◌++◌, ◌⊎◌, Option, Some, None, inl, inr, refl, sym, subst, ap, ◌∙◌}
use Rattle.std.specs.Prelude.{filter, filter_map, unwrap_or}
use Rattle.std.specs.List.{AllByRecursion, cons_option, find, list_any}
use Rattle.std.proofs.lemmas.Bool.{cond_both, or_left, or_right}
use Rattle.bfs_agreement.specs.Histories.{IsIn}

abbrev pub AllIn : {A : Type 0} → (A → Type 0) → List A → Type 0
AllIn {A} P xs = (x : A) → IsIn x xs → P x

pub some_is : {A : Type 0} (a b : A) → Some a ≡ Some b → a ≡ b
some_is {A} a b e = ap (λ (o : Option A). unwrap_or o a) e

pub none_in : {A : Type 0} (P : A → Type 0) → AllIn P []
none_in P x i = absurd i

pub one_in : {A : Type 0} (P : A → Type 0) (y : A) → P y → AllIn P (y ∷ [])
one_in P y h x i = elim i [ inl e ↦ subst P (sym e) h | inr j ↦ absurd j ]

pub more_in : {A : Type 0} (P : A → Type 0) (y : A) (ys : List A) → P y → AllIn P ys → AllIn P (y ∷ ys)
more_in P y ys h all x i = elim i [ inl e ↦ subst P (sym e) h | inr j ↦ all x j ]

pub either_in : {A : Type 0} (xs ys : List A) (x : A) → IsIn x (xs ++ ys) → IsIn x xs ⊎ IsIn x ys
either_in [] ys x i = inr i
either_in (z ∷ xs) ys x i = elim i [
  | inl e ↦ inl (inl e)
  | inr j ↦ elim (either_in xs ys x j) [ inl k ↦ inl (inr k) | inr k ↦ inr k ]
]

pub left_in : {A : Type 0} (xs ys : List A) (x : A) → IsIn x xs → IsIn x (xs ++ ys)
left_in [] ys x i = absurd i
left_in (z ∷ xs) ys x i = elim i [ inl e ↦ inl e | inr j ↦ inr (left_in xs ys x j) ]

pub right_in : {A : Type 0} (xs ys : List A) (x : A) → IsIn x ys → IsIn x (xs ++ ys)
right_in [] ys x i = i
right_in (z ∷ xs) ys x i = inr (right_in xs ys x i)

pub both_in : {A : Type 0} (P : A → Type 0) (xs ys : List A) → AllIn P xs → AllIn P ys → AllIn P (xs ++ ys)
both_in P xs ys a b x i = elim (either_in xs ys x i) [ inl j ↦ a x j | inr j ↦ b x j ]

pub filter_in : {A : Type 0} (P : A → Type 0) (p : A → Bool) (xs : List A) → AllIn P xs → AllIn P (filter p xs)
filter_in P p [] all = all
filter_in P p (y ∷ ys) all =
    let rest = filter_in P p ys (λ x i. all x (inr i)) in
    cond_both (p y) (y ∷ filter p ys) (filter p ys) (AllIn P) (λ _. more_in P y (filter p ys) (all y (inl refl)) rest) (λ _. rest)

pub out_of_filter_map : {A B : Type 0} (g : A → Option B) (xs : List A) (y : B) → IsIn y (filter_map g xs) → (x : A) × IsIn x xs × (g x ≡ Some y)
out_of_filter_map g [] y i = absurd i
out_of_filter_map {A} {B} g (x ∷ xs) y i = go (g x) refl i (out_of_filter_map g xs y)
  where
    go : (o : Option B) → g x ≡ o → IsIn y (cons_option o (filter_map g xs)) → (IsIn y (filter_map g xs) → (z : A) × IsIn z xs × (g z ≡ Some y)) → (z : A) × IsIn z (x ∷ xs) × (g z ≡ Some y)
    go None e j later = let got = later j in (got.0, inr got.1, got.2)
    go (Some b) e j later = elim j [
      | inl same ↦ (x, inl refl, e ∙ ap (λ (c : B). Some c) (sym same))
      | inr k ↦ let got = later k in (got.0, inr got.1, got.2)
    ]

pub any_in : {A : Type 0} (p : A → Bool) (xs : List A) (x : A) → IsIn x xs → p x ≡ true → list_any p xs ≡ true
any_in p [] x i e = absurd i
any_in p (y ∷ ys) x i e = elim i [
  | inl same ↦ or_left (p y) (list_any p ys) (ap p (sym same) ∙ e)
  | inr j ↦ or_right (p y) (list_any p ys) (any_in p ys x j e)
]

pub found : {A : Type 0} (p : A → Bool) (xs : List A) (m : A) → find p xs ≡ Some m → IsIn m xs × (p m ≡ true)
found p [] m e = absurd cc
found p (x ∷ xs) m e =
    let later = found p xs m in
    cond_both (p x) (Some x) (find p xs) (λ o. o ≡ Some m → IsIn m (x ∷ xs) × (p m ≡ true))
    (λ is same. let e = some_is x m same in (inl (sym e), ap p (sym e) ∙ is)) (λ _ same. let got = later same in (inr got.0, got.1)) e

pub at_place : {A : Type 0} (P : A → Type 0) (xs : List A) → AllByRecursion P xs → AllIn P xs
at_place P [] all x i = absurd i
at_place P (y ∷ ys) all x i = elim i [ inl e ↦ subst P (sym e) all.0 | inr j ↦ at_place P ys all.1 x j ]
