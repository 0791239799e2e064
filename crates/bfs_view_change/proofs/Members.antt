-- Members of lists, and tests and greatest numbers that depend on the members alone.
use Rattle.std.proofs.Common.{◌≡◌, ℕ, zero, suc, ◌+◌, ◌<◌, ◌≤◌, Bool, true, false, cond, List, [], ◌∷◌, length, map, get_or, Option, Some, None, refl, sym, ap, subst, ◌∙◌, inl, inr, ⊎_elim, arith}
use Rattle.std.specs.Prelude.{◌⊎◌, unwrap_or}
use Rattle.std.specs.List.{Contains, cons_option, filter, filter_map, flat_map, list_any, list_all, range_with_len}
use Rattle.std.proofs.lemmas.Bool.{and_parts, and_from, or_cases, or_left, or_right, cases_lt}
use Rattle.std.proofs.lemmas.List.Elements.{Contains-append_left, Contains-append_right, Contains-append_cases}
use Rattle.bfs_view_change.specs.Changes.Choice.{greatest}
use Rattle.bfs_view_change.specs.Laws.Sets.{SameMembers}

pub in_front : {A : Type 0} (x : A) (xs : List A) → Contains (x ∷ xs) x
in_front x xs = (0, omega arith, refl)

pub in_rest : {A : Type 0} (x y : A) (xs : List A) → Contains xs x → Contains (y ∷ xs) x
in_rest x y xs h = (suc h.0, omega (arith, h.1), h.2)

pub either : {A : Type 0} (x y : A) (xs : List A) → Contains (y ∷ xs) x → (y ≡ x) ⊎ Contains xs x
either {A} x y xs h = go h.0 h.1 h.2
  where
    go : (k : ℕ) → k < length (y ∷ xs) → get_or (y ∷ xs) k x ≡ x → (y ≡ x) ⊎ Contains xs x
    go zero lt e = inl e
    go (suc k) lt e = inr (k, omega (arith, lt), e)

pub none_in : {A : Type 0} (x : A) → Contains [] x → ⊥
none_in x h = absurd (omega (arith, h.1))

-- map, filter, flat_map ------------------------------------------------------------------------------------------------------

pub in_map : {A B : Type 0} (f : A → B) (x : A) (xs : List A) → Contains xs x → Contains (map f xs) (f x)
in_map f x [] h = absurd (none_in x h)
in_map {A} {B} f x (y ∷ ys) h = ⊎_elim
    (λ e. subst (λ (z : A). Contains (f y ∷ map f ys) (f z)) e (in_front (f y) (map f ys)))
    (λ m. in_rest (f x) (f y) (map f ys) (in_map f x ys m))
    (either x y ys h)

pub of_map : {A B : Type 0} (f : A → B) (y : B) (xs : List A) → Contains (map f xs) y → (x : A) × Contains xs x × (f x ≡ y)
of_map f y [] h = absurd (none_in y h)
of_map f y (x ∷ xs) h = ⊎_elim
    (λ e. (x, in_front x xs, e))
    (λ m. let r = of_map f y xs m in (r.0, in_rest r.0 x xs r.1, r.2))
    (either y (f x) (map f xs) h)

pub in_filter : {A : Type 0} (p : A → Bool) (x : A) (xs : List A) → Contains xs x → p x ≡ true → Contains (filter p xs) x
in_filter p x [] h t = absurd (none_in x h)
in_filter {A} p x (y ∷ ys) h t = go (p y) refl (either x y ys h) (λ m. in_filter p x ys m t)
  where
    go : (b : Bool) → p y ≡ b → (y ≡ x) ⊎ Contains ys x → (Contains ys x → Contains (filter p ys) x) → Contains (cond b (y ∷ filter p ys) (filter p ys)) x
    go true e (inl same) later = subst (λ (z : A). Contains (y ∷ filter p ys) z) same (in_front y (filter p ys))
    go true e (inr m) later = in_rest x y (filter p ys) (later m)
    go false e (inl same) later = let f : true ≡ false = sym t ∙ ap p (sym same) ∙ e in absurd cc
    go false e (inr m) later = later m

pub of_filter : {A : Type 0} (p : A → Bool) (x : A) (xs : List A) → Contains (filter p xs) x → Contains xs x × (p x ≡ true)
of_filter p x [] h = absurd (none_in x h)
of_filter {A} p x (y ∷ ys) h = go (p y) refl h (λ n. of_filter p x ys n)
  where
    go : (b : Bool) → p y ≡ b → Contains (cond b (y ∷ filter p ys) (filter p ys)) x → (Contains (filter p ys) x → Contains ys x × (p x ≡ true)) → Contains (y ∷ ys) x × (p x ≡ true)
    go true e m later = ⊎_elim
        (λ same. (subst (λ (z : A). Contains (y ∷ ys) z) same (in_front y ys), ap p (sym same) ∙ e))
        (λ n. let r = later n in (in_rest x y ys r.0, r.1))
        (either x y (filter p ys) m)
    go false e m later = let r = later m in (in_rest x y ys r.0, r.1)

pub in_flat : {A B : Type 0} (f : A → List B) (x : A) (y : B) (xs : List A) → Contains xs x → Contains (f x) y → Contains (flat_map f xs) y
in_flat f x y [] h m = absurd (none_in x h)
in_flat {A} {B} f x y (z ∷ zs) h m = ⊎_elim
    (λ e. Contains-append_left (f z) (flat_map f zs) y (subst (λ (w : A). Contains (f w) y) (sym e) m))
    (λ n. Contains-append_right (f z) (flat_map f zs) y (in_flat f x y zs n m))
    (either x z zs h)

pub of_flat : {A B : Type 0} (f : A → List B) (y : B) (xs : List A) → Contains (flat_map f xs) y → (x : A) × Contains xs x × Contains (f x) y
of_flat f y [] h = absurd (none_in y h)
of_flat f y (x ∷ xs) h = ⊎_elim
    (λ m. (x, in_front x xs, m))
    (λ n. let r = of_flat f y xs n in (r.0, in_rest r.0 x xs r.1, r.2))
    (Contains-append_cases (f x) (flat_map f xs) y h)

pub in_range : (a n k : ℕ) → a ≤ k → k < a + n → Contains (range_with_len a n) k
in_range a zero k low high = absurd (omega (arith, low, high))
in_range a (suc n) k low high = ⊎_elim
    (λ lt. in_rest k a (range_with_len (a + 1) n) (in_range (a + 1) n k (omega (arith, lt)) (omega (arith, high))))
    (λ le. let same : a ≡ k = omega (arith, low, le) in subst (λ (z : ℕ). Contains (a ∷ range_with_len (a + 1) n) z) same (in_front a (range_with_len (a + 1) n)))
    (cases_lt a k)

pub of_range : (a n k : ℕ) → Contains (range_with_len a n) k → (a ≤ k) × (k < a + n)
of_range a zero k h = absurd (none_in k h)
of_range a (suc n) k h = ⊎_elim
    (λ e. (omega (arith, e), omega (arith, e)))
    (λ m. let r = of_range (a + 1) n k m in (omega (arith, r.0), omega (arith, r.1)))
    (either k a (range_with_len (a + 1) n) h)

-- Tests -----------------------------------------------------------------------------------------------------------------------

pub same_bool : (a b : Bool) → (a ≡ true → b ≡ true) → (b ≡ true → a ≡ true) → a ≡ b
same_bool true true f g = refl
same_bool true false f g = sym (f refl)
same_bool false true f g = g refl
same_bool false false f g = refl

pub all_at : {A : Type 0} (p : A → Bool) (xs : List A) → list_all p xs ≡ true → (x : A) → Contains xs x → p x ≡ true
all_at p [] h x m = absurd (none_in x m)
all_at p (y ∷ ys) h x m = let r = and_parts (p y) (list_all p ys) h in ⊎_elim (λ e. ap p (sym e) ∙ r.0) (λ n. all_at p ys r.1 x n) (either x y ys m)

pub all_from : {A : Type 0} (p : A → Bool) (xs : List A) → ((x : A) → Contains xs x → p x ≡ true) → list_all p xs ≡ true
all_from p [] h = refl
all_from p (y ∷ ys) h = and_from (p y) (list_all p ys) (h y (in_front y ys)) (all_from p ys (λ x m. h x (in_rest x y ys m)))

pub any_at : {A : Type 0} (p : A → Bool) (xs : List A) → list_any p xs ≡ true → (x : A) × Contains xs x × (p x ≡ true)
any_at p [] h = absurd cc
any_at p (y ∷ ys) h = ⊎_elim (λ e. (y, in_front y ys, e)) (λ e. let r = any_at p ys e in (r.0, in_rest r.0 y ys r.1, r.2)) (or_cases (p y) (list_any p ys) h)

pub any_from : {A : Type 0} (p : A → Bool) (x : A) (xs : List A) → Contains xs x → p x ≡ true → list_any p xs ≡ true
any_from p x [] m e = absurd (none_in x m)
any_from p x (y ∷ ys) m e = ⊎_elim (λ same. or_left (p y) (list_any p ys) (ap p same ∙ e)) (λ n. or_right (p y) (list_any p ys) (any_from p x ys n e)) (either x y ys m)

pub same_all : {A : Type 0} (p : A → Bool) (xs ys : List A) → SameMembers xs ys → list_all p xs ≡ list_all p ys
same_all p xs ys same = same_bool (list_all p xs) (list_all p ys)
    (λ h. all_from p ys (λ x m. all_at p xs h x ((same x).1 m)))
    (λ h. all_from p xs (λ x m. all_at p ys h x ((same x).0 m)))

pub same_any : {A : Type 0} (p : A → Bool) (xs ys : List A) → SameMembers xs ys → list_any p xs ≡ list_any p ys
same_any p xs ys same = same_bool (list_any p xs) (list_any p ys)
    (λ h. let r = any_at p xs h in any_from p r.0 ys ((same r.0).0 r.1) r.2)
    (λ h. let r = any_at p ys h in any_from p r.0 xs ((same r.0).1 r.1) r.2)

-- Greatest numbers --------------------------------------------------------------------------------------------------------------

pub at_most_greatest : (ns : List ℕ) (n : ℕ) → Contains ns n → n ≤ greatest ns
at_most_greatest [] n h = absurd (none_in n h)
at_most_greatest (m ∷ ms) n h = ⊎_elim (λ e. omega (arith, e)) (λ r. omega (arith, at_most_greatest ms n r)) (either n m ms h)

pub greatest_at_most : (ns : List ℕ) (b : ℕ) → ((n : ℕ) → Contains ns n → n ≤ b) → greatest ns ≤ b
greatest_at_most [] b h = omega arith
greatest_at_most (m ∷ ms) b h = omega (arith, h m (in_front m ms), greatest_at_most ms b (λ n r. h n (in_rest n m ms r)))

pub same_greatest : (ns ms : List ℕ) → SameMembers ns ms → greatest ns ≡ greatest ms
same_greatest ns ms same =
    let a = greatest_at_most ns (greatest ms) (λ n h. at_most_greatest ms n ((same n).0 h)) in
    let b = greatest_at_most ms (greatest ns) (λ n h. at_most_greatest ns n ((same n).1 h)) in
    omega (arith, a, b)

pub same_map : {A B : Type 0} (f : A → B) (xs ys : List A) → SameMembers xs ys → SameMembers (map f xs) (map f ys)
same_map {A} {B} f xs ys same y = (
  λ h. let r = of_map f y xs h in subst (λ (z : B). Contains (map f ys) z) r.2 (in_map f r.0 ys ((same r.0).0 r.1)),
  λ h. let r = of_map f y ys h in subst (λ (z : B). Contains (map f xs) z) r.2 (in_map f r.0 xs ((same r.0).1 r.1)),
)

pub same_flat : {A B : Type 0} (f : A → List B) (xs ys : List A) → SameMembers xs ys → SameMembers (flat_map f xs) (flat_map f ys)
same_flat f xs ys same y = (
  λ h. let r = of_flat f y xs h in in_flat f r.0 y ys ((same r.0).0 r.1) r.2,
  λ h. let r = of_flat f y ys h in in_flat f r.0 y xs ((same r.0).1 r.1) r.2,
)

pub map_agree : {A B : Type 0} (f g : A → B) (xs : List A) → ((x : A) → f x ≡ g x) → map f xs ≡ map g xs
map_agree f g [] h = refl
map_agree f g (x ∷ xs) h = rw (h x, map_agree f g xs h) refl

-- filter_map -------------------------------------------------------------------------------------------------------------

pub some_is : {B : Type 0} (a b : B) → Some a ≡ Some b → a ≡ b
some_is {B} a b e = ap (λ (o : Option B). unwrap_or o a) e

pub of_filter_map : {A B : Type 0} (h : A → Option B) (y : B) (xs : List A) → Contains (filter_map h xs) y → (x : A) × Contains xs x × (h x ≡ Some y)
of_filter_map h y [] m = absurd (none_in y m)
of_filter_map {A} {B} h y (x ∷ xs) m = go (h x) refl m (of_filter_map h y xs)
  where
    go : (o : Option B) → h x ≡ o → Contains (cons_option o (filter_map h xs)) y → (Contains (filter_map h xs) y → (z : A) × Contains xs z × (h z ≡ Some y)) → (z : A) × Contains (x ∷ xs) z × (h z ≡ Some y)
    go None e n later = let r = later n in (r.0, in_rest r.0 x xs r.1, r.2)
    go (Some b) e n later = ⊎_elim
        (λ same. (x, in_front x xs, e ∙ ap (λ (z : B). Some z) same))
        (λ k. let r = later k in (r.0, in_rest r.0 x xs r.1, r.2))
        (either y b (filter_map h xs) n)

pub in_filter_map : {A B : Type 0} (h : A → Option B) (x : A) (y : B) (xs : List A) → Contains xs x → h x ≡ Some y → Contains (filter_map h xs) y
in_filter_map h x y [] m e = absurd (none_in x m)
in_filter_map {A} {B} h x y (z ∷ zs) m e = go (h z) refl (either x z zs m) (λ n. in_filter_map h x y zs n e)
  where
    go : (o : Option B) → h z ≡ o → (z ≡ x) ⊎ Contains zs x → (Contains zs x → Contains (filter_map h zs) y) → Contains (cons_option o (filter_map h zs)) y
    go None f (inl same) later = let no : Some y ≡ None = sym e ∙ ap h (sym same) ∙ f in absurd cc
    go None f (inr n) later = later n
    go (Some b) f (inl same) later =
        let is : Some b ≡ Some y = sym f ∙ ap h same ∙ e in
        subst (λ (w : B). Contains (b ∷ filter_map h zs) w) (some_is b y is) (in_front b (filter_map h zs))
    go (Some b) f (inr n) later = in_rest y b (filter_map h zs) (later n)
