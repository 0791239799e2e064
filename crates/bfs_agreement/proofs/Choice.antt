-- The choice as a function is the choice by its rule.
use Rattle.std.proofs.Common.{◌≡◌, ℕ, zero, suc, ◌+◌, ◌-◌, ◌<◌, ◌≤◌, ◌==◌, true, ltb, List, [], ◌∷◌, ◌++◌, Option, Some, None, ◌⊎◌, inl, inr, refl, sym, ap, subst, ◌∙◌, arith}
use Rattle.std.proofs.lemmas.Bool.{or_left, cond_both, eqb-true, eqb-false, ltb-true, ltb-false, cases_eq}
use Rattle.bfs_votes.specs.Votes.{Header, says, told, Told, primary}
use Rattle.bfs_agreement.specs.Histories.{IsIn, Certificate, ViewChange}
use Rattle.bfs_agreement.specs.Choice.{latest_stable, all_certificates, greatest_certified, higher, highest_of, digest_or, proposals_from}
use Rattle.bfs_agreement.proofs.Told.{told_cases, told_more}
use Rattle.bfs_agreement.proofs.Said.{says_itself}
use Rattle.bfs_agreement.specs.Laws.{ChoiceIsByItsRule}

in_left : {A : Type 0} (x : A) (xs ys : List A) → IsIn x xs → IsIn x (xs ++ ys)
in_left x [] ys h = absurd h
in_left x (z ∷ xs) ys h = elim h [ inl e ↦ inl e | inr i ↦ inr (in_left x xs ys i) ]

in_right : {A : Type 0} (x : A) (xs ys : List A) → IsIn x ys → IsIn x (xs ++ ys)
in_right x [] ys h = h
in_right x (z ∷ xs) ys h = inr (in_right x xs ys h)

in_either : {A : Type 0} (x : A) (xs ys : List A) → IsIn x (xs ++ ys) → IsIn x xs ⊎ IsIn x ys
in_either x [] ys h = inr h
in_either x (z ∷ xs) ys h = elim h [ inl e ↦ inl (inl e) | inr i ↦ elim (in_either x xs ys i) [ inl a ↦ inl (inr a) | inr b ↦ inr b ] ]

stable_below : (ms : List ViewChange) (m : ViewChange) → IsIn m ms → m.stable ≤ latest_stable ms
stable_below [] m h = absurd h
stable_below (l ∷ ms) m h = elim h [
  | inl e ↦ let same : m.stable ≡ l.stable = ap (λ (c : ViewChange). c.stable) e in omega (arith, same)
  | inr i ↦ let le = stable_below ms m i in omega (arith, le)
]

into_all : (ms : List ViewChange) (m : ViewChange) (c : Certificate) → IsIn m ms → IsIn c m.certificates → IsIn c (all_certificates ms)
into_all [] m c h i = absurd h
into_all (l ∷ ms) m c h i = elim h [
  | inl e ↦ in_left c l.certificates (all_certificates ms) (subst (λ (x : ViewChange). IsIn c x.certificates) e i)
  | inr j ↦ in_right c l.certificates (all_certificates ms) (into_all ms m c j i)
]

pub out_of_all : (ms : List ViewChange) (c : Certificate) → IsIn c (all_certificates ms) → (m : ViewChange) × IsIn m ms × IsIn c m.certificates
out_of_all [] c h = absurd h
out_of_all (l ∷ ms) c h = elim (in_either c l.certificates (all_certificates ms) h) [
  | inl a ↦ (l, inl refl, a)
  | inr b ↦ let got = out_of_all ms c b in (got.0, inr got.1, got.2)
]

number_below : (first : ℕ) (cs : List Certificate) (c : Certificate) → IsIn c cs → c.proposal.number ≤ greatest_certified first cs
number_below first [] c h = absurd h
number_below first (b ∷ cs) c h = elim h [
  | inl e ↦ let same : c.proposal.number ≡ b.proposal.number = ap (λ (x : Certificate). x.proposal.number) e in omega (arith, same)
  | inr i ↦ let le = number_below first cs c i in omega (arith, le)
]

-- a certificate of the number that is there, of at least that view
abbrev pub Best : List Certificate → (n view : ℕ) → Type 0
Best cs n view = (b : Certificate) × (highest_of cs n ≡ Some b) × IsIn b cs × (b.proposal.number ≡ n) × (view ≤ b.proposal.view)

-- what is found is there
abbrev IsFound : List Certificate → ℕ → Option Certificate → Type 0
IsFound cs n None = Unit {0}
IsFound cs n (Some b) = IsIn b cs × (b.proposal.number ≡ n)

found_higher : (c : Certificate) (cs : List Certificate) (n : ℕ) (o : Option Certificate) → c.proposal.number ≡ n → IsFound cs n o → IsFound (c ∷ cs) n (Some (higher c o))
found_higher c cs n None e h = (inl refl, e)
found_higher c cs n (Some b) e h = cond_both (ltb c.proposal.view b.proposal.view) b c (λ (x : Certificate). IsIn x (c ∷ cs) × (x.proposal.number ≡ n)) (λ _. (inr h.0, h.1)) (λ _. (inl refl, e))

found_more : (c : Certificate) (cs : List Certificate) (n : ℕ) (o : Option Certificate) → IsFound cs n o → IsFound (c ∷ cs) n o
found_more c cs n None h = h
found_more c cs n (Some b) h = (inr h.0, h.1)

found : (cs : List Certificate) (n : ℕ) → IsFound cs n (highest_of cs n)
found [] n = tt
found (c ∷ cs) n = cond_both (c.proposal.number == n) (Some (higher c (highest_of cs n))) (highest_of cs n) (λ (o : Option Certificate). IsFound (c ∷ cs) n o)
    (λ e. found_higher c cs n (highest_of cs n) (eqb-true c.proposal.number n e) (found cs n))
    (λ e. found_more c cs n (highest_of cs n) (found cs n))

-- and of no lower view than any of the number
abbrev IsAbove : ℕ → Option Certificate → Type 0
IsAbove view None = ⊥
IsAbove view (Some b) = view ≤ b.proposal.view

above_itself : (c : Certificate) (o : Option Certificate) → c.proposal.view ≤ (higher c o).proposal.view
above_itself c None = omega arith
above_itself c (Some b) = cond_both (ltb c.proposal.view b.proposal.view) b c (λ (x : Certificate). c.proposal.view ≤ x.proposal.view)
    (λ e. let lt = ltb-true c.proposal.view b.proposal.view e in omega (arith, lt)) (λ e. omega arith)

above_other : (c : Certificate) (view : ℕ) (o : Option Certificate) → IsAbove view o → view ≤ (higher c o).proposal.view
above_other c view None h = absurd h
above_other c view (Some b) h = cond_both (ltb c.proposal.view b.proposal.view) b c (λ (x : Certificate). view ≤ x.proposal.view)
    (λ e. h) (λ e. let le = ltb-false c.proposal.view b.proposal.view e in omega (arith, le, h))

above : (cs : List Certificate) (n : ℕ) (c : Certificate) → IsIn c cs → c.proposal.number ≡ n → IsAbove c.proposal.view (highest_of cs n)
above [] n c h e = absurd h
above (b ∷ cs) n c h e = cond_both (b.proposal.number == n) (Some (higher b (highest_of cs n))) (highest_of cs n) (λ (o : Option Certificate). IsAbove c.proposal.view o)
    (λ _. elim h [
      | inl s ↦ let same : c.proposal.view ≡ b.proposal.view = ap (λ (x : Certificate). x.proposal.view) s in let le = above_itself b (highest_of cs n) in omega (arith, same, le)
      | inr i ↦ above_other b c.proposal.view (highest_of cs n) (above cs n c i e)
    ])
    (λ other. elim h [
      | inl s ↦ absurd (eqb-false b.proposal.number n other (sym (ap (λ (x : Certificate). x.proposal.number) s) ∙ e))
      | inr i ↦ above cs n c i e
    ])

best_from : (cs : List Certificate) (n view : ℕ) (o : Option Certificate) → highest_of cs n ≡ o → IsFound cs n o → IsAbove view o → Best cs n view
best_from cs n view None e f a = absurd a
best_from cs n view (Some b) e f a = (b, e, f.0, f.1, a)

pub best_is : (cs : List Certificate) (n : ℕ) (c : Certificate) → IsIn c cs → c.proposal.number ≡ n → Best cs n c.proposal.view
best_is cs n c h e = best_from cs n c.proposal.view (highest_of cs n) refl (found cs n) (above cs n c h e)

-- what the PRE-PREPAREs tell
pub record IsProposed (f view : ℕ) (null : List ℕ) (cs : List Certificate) (n count t k v m : ℕ) (d : List ℕ) : Type 0 where
  tag : t ≡ 2
  sender : k ≡ primary f view
  same_view : v ≡ view
  from : n ≤ m
  to : m < n + count
  digest : d ≡ digest_or null (highest_of cs m)

proposed_is : (f view : ℕ) (null : List ℕ) (cs : List Certificate) (n count t k v m : ℕ) (d : List ℕ) → Told (proposals_from f view null cs n count) t k v m d → IsProposed f view null cs n count t k v m d
proposed_is f view null cs n zero t k v m d h = absurd cc
proposed_is f view null cs n (suc count) t k v m d h =
    elim (told_cases (record { tag = 2; sender = primary f view; view = view; number = n; digest = digest_or null (highest_of cs n) }) (proposals_from f view null cs (n + 1) count) t k v m d h) [
      | inl a ↦ let same : n ≡ m = a.number in record {
        tag = sym a.tag;
        sender = sym a.sender;
        same_view = sym a.view;
        from = omega (arith, same);
        to = omega (arith, same);
        digest = sym a.digest ∙ ap (λ (x : ℕ). digest_or null (highest_of cs x)) same;
      }
      | inr b ↦ let r = proposed_is f view null cs (n + 1) count t k v m d b in let one = r.from in let two = r.to in record {
        tag = r.tag;
        sender = r.sender;
        same_view = r.same_view;
        from = omega (arith, one);
        to = omega (arith, two);
        digest = r.digest;
      }
    ]

pub is_proposed : (f view : ℕ) (null : List ℕ) (cs : List Certificate) (n count m : ℕ) → n ≤ m → m < n + count → Told (proposals_from f view null cs n count) 2 (primary f view) view m (digest_or null (highest_of cs m))
is_proposed f view null cs n zero m le lt = absurd (omega (arith, le, lt))
is_proposed f view null cs n (suc count) m le lt =
    let h : Header = record { tag = 2; sender = primary f view; view = view; number = n; digest = digest_or null (highest_of cs n) } in
    elim (cases_eq n m) [
      | inl e ↦ subst (λ (x : ℕ). told (proposals_from f view null cs n (suc count)) 2 (primary f view) view x (digest_or null (highest_of cs x)) ≡ true) e
          (or_left (says 2 (primary f view) view n (digest_or null (highest_of cs n)) h) (told (proposals_from f view null cs (n + 1) count) 2 (primary f view) view n (digest_or null (highest_of cs n))) (says_itself h))
      | inr other ↦ told_more h (proposals_from f view null cs (n + 1) count) 2 (primary f view) view m (digest_or null (highest_of cs m)) (is_proposed f view null cs (n + 1) count m (omega (arith, other, le)) (omega (arith, lt)))
    ]

pub choice_is_by_its_rule : ChoiceIsByItsRule
choice_is_by_its_rule f view null ms =
    let cs = all_certificates ms in
    let min_s = latest_stable ms in
    let top = greatest_certified min_s cs in
    let is = proposed_is f view null cs (min_s + 1) (top - min_s) in
    record {
      kinds = λ t k v n d h. let r = is t k v n d h in (r.tag, r.sender, r.same_view);
      within = λ k v n d h. let r = is 2 k v n d h in let one = r.from in let two = r.to in (omega (arith, one), omega (arith, one, two));
      once = λ k v n d e x y. (is 2 k v n d x).digest ∙ sym (is 2 k v n e y).digest;
      stable = λ m h. stable_below ms m h;
      highest = λ m c h i lt.
          let there = into_all ms m c h i in
          let b = best_is cs c.proposal.number c there refl in
          let from = out_of_all ms b.0 b.2 in
          let le = number_below min_s cs c there in (
            from.0,
            b.0,
            from.1,
            from.2,
            b.3,
            b.4,
            subst (λ (o : Option Certificate). Told (proposals_from f view null cs (min_s + 1) (top - min_s)) 2 (primary f view) view c.proposal.number (digest_or null o)) b.1
                (is_proposed f view null cs (min_s + 1) (top - min_s) c.proposal.number (omega (arith, lt)) (omega (arith, lt, le))),
          );
    }
