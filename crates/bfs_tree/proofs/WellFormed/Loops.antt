-- What a turn of each loop knows, and what its end tells.
use Rattle.std.proofs.Common.{◌≡◌, ℕ, ◌+◌, ◌-◌, ◌<◌, ◌≤◌, true, false, true≢false, IsTrue, List, [], ◌∷◌, sum_by, inl, inr, refl, sym, ap, subst, ◌∙◌, arith, eq-eqb, ne_eqb}
use Rattle.std.specs.Prelude.{◌==◌, ◌↔◌}
use Rattle.std.specs.List.{AllByRecursion}
use Rattle.std.proofs.lemmas.Bool.{cases_eq}
use Rattle.std.proofs.lemmas.List.Sums.{sum_by-cons}
use Rattle.bfs_model.specs.Server.Tree.{Inode, entries_in}
use Rattle.bfs_model.specs.Server.WellFormed.{times}

-- What a loop answers ----------------------------------------------------------------------------------------------------

pub yes : {A : Type 0} → A → IsTrue true ↔ A
yes holds = (λ _. holds, λ _. refl)

pub no : {A : Type 0} → (A → ⊥) → IsTrue false ↔ A
no fails = (λ is. absurd (true≢false (sym is)), λ holds. absurd (fails holds))

-- Of all -----------------------------------------------------------------------------------------------------------------

pub all_further : {X : Type 0} (P : X → Type 0) (all xs rest : List X) (x : X) → xs ≡ x ∷ rest → P x → (AllByRecursion P xs ↔ AllByRecursion P all) → AllByRecursion P rest ↔ AllByRecursion P all
all_further P all xs rest x is here so_far = (λ h. so_far.0 (subst (AllByRecursion P) (sym is) (here, h)), λ h. (subst (AllByRecursion P) is (so_far.1 h)).1)

pub not_all : {X : Type 0} (P : X → Type 0) (all xs rest : List X) (x : X) → xs ≡ x ∷ rest → (P x → ⊥) → (AllByRecursion P xs ↔ AllByRecursion P all) → IsTrue false ↔ AllByRecursion P all
not_all P all xs rest x is fails so_far = no (λ h. fails (subst (AllByRecursion P) is (so_far.1 h)).0)

pub all_at_end : {X : Type 0} (P : X → Type 0) (all xs : List X) → xs ≡ [] → (AllByRecursion P xs ↔ AllByRecursion P all) → IsTrue true ↔ AllByRecursion P all
all_at_end P all xs is so_far = yes (so_far.0 (subst (AllByRecursion P) (sym is) tt))

-- Names in all directories -----------------------------------------------------------------------------------------------

-- how often the entries of an inode name another one
abbrev pub names_at : (id : ℕ) → ℕ × Inode → ℕ
names_at id inode = times id (entries_in inode.1.body)

step_counted : (id : ℕ) (xs rest : List (ℕ × Inode)) (x : ℕ × Inode) → xs ≡ x ∷ rest → sum_by (names_at id) xs ≡ names_at id x + sum_by (names_at id) rest
step_counted id xs rest x is = ap (sum_by (names_at id)) is ∙ sum_by-cons (names_at id) x rest

pub names_counted : (id links left all names : ℕ) (xs rest : List (ℕ × Inode)) (x : ℕ × Inode) → xs ≡ x ∷ rest → names ≡ names_at id x → names ≤ left → left + all ≡ links + sum_by (names_at id) xs
    → (left - names) + all ≡ links + sum_by (names_at id) rest
names_counted id links left all names xs rest x is here le so_far = omega (arith, step_counted id xs rest x is)

pub too_many_names : (id links left all names : ℕ) (xs rest : List (ℕ × Inode)) (x : ℕ × Inode) → xs ≡ x ∷ rest → names ≡ names_at id x → left < names → left + all ≡ links + sum_by (names_at id) xs
    → false ≡ (links == all)
too_many_names id links left all names xs rest x is here lt so_far =
    sym (ne_eqb links all (λ same. let step : sum_by (names_at id) xs ≡ names_at id x + sum_by (names_at id) rest = step_counted id xs rest x is in absurd (omega arith)))

pub all_names_counted : (id links left all : ℕ) (xs : List (ℕ × Inode)) → xs ≡ [] → left + all ≡ links + sum_by (names_at id) xs → (left == 0) ≡ (links == all)
all_names_counted id links left all xs is so_far =
    let none : sum_by (names_at id) xs ≡ 0 = ap (sum_by (names_at id)) is in
    elim (cases_eq left 0) [
      | inl spent ↦ eq-eqb left 0 spent ∙ sym (eq-eqb links all (omega arith))
      | inr some ↦ ne_eqb left 0 some ∙ sym (ne_eqb links all (λ same. some (omega arith)))
    ]
