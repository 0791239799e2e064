-- VIEW-CHANGEs that a node keeps by their senders' places: whoever has asked for a view that it leads has one there.
use Rattle.std.proofs.Common.{◌≡◌, ℕ, zero, suc, ◌+◌, ◌<◌, ◌≤◌, ◌==◌, Bool, true, false, cond, List, [], ◌∷◌, Option, Some, None, length, map, replicate, get_or, slice_set, is_some, inl, inr, refl, sym, ap, subst, arith}
use Rattle.std.specs.Prelude.{filter_map, nat_lt}
use Rattle.std.specs.List.{cons_option}
use Rattle.std.proofs.lemmas.Bool.{cases_Bool, eq-eqb, eqb-true, lt-ltb}
use Rattle.bfs_votes.specs.Votes.{count_below}
use Rattle.bfs_messages.specs.Messages as model
use Rattle.bfs_messages.specs.declared.signed.Signed.{Signed}
use Rattle.bfs_view_change.specs.Changes.Keeping.{if_above, if_for}

abbrev pub Change : Type 0
Change = Signed model.ViewChange

-- Numbers -----------------------------------------------------------------------------------------------------------------

pub set_rises : (us : List ℕ) (i a j : ℕ) → get_or us i 0 ≤ a → get_or us j 0 ≤ get_or (slice_set us i a) j 0
set_rises [] i a j le = omega arith
set_rises (x ∷ us) zero a zero le = le
set_rises (x ∷ us) zero a (suc j) le = omega arith
set_rises (x ∷ us) (suc i) a zero le = omega arith
set_rises (x ∷ us) (suc i) a (suc j) le = set_rises us i a j le

pub set_bounded : (us : List ℕ) (i a j bound : ℕ) → get_or us j 0 ≤ bound → (i ≡ j → a ≤ bound) → get_or (slice_set us i a) j 0 ≤ bound
set_bounded [] i a j bound le new = le
set_bounded (x ∷ us) zero a zero bound le new = new refl
set_bounded (x ∷ us) zero a (suc j) bound le new = le
set_bounded (x ∷ us) (suc i) a zero bound le new = le
set_bounded (x ∷ us) (suc i) a (suc j) bound le new = set_bounded us i a j bound le (λ e. new (ap suc e))

pub set_there : (us : List ℕ) (i a : ℕ) → i < length us → get_or (slice_set us i a) i 0 ≡ a
set_there [] i a lt = absurd (omega (arith, lt))
set_there (x ∷ us) zero a lt = refl
set_there (x ∷ us) (suc i) a lt = set_there us i a (omega (arith, lt))

-- Places ------------------------------------------------------------------------------------------------------------------

is_for : (a : ℕ) (s : Change) → is_some (if_for a (Some s)) ≡ true → s.message.view ≡ a
is_for a s e = eqb-true s.message.view a (elim (s.message.view == a) as (λ b. is_some (cond b (Some s) None) ≡ true → b ≡ true) [ true ↦ λ _. refl | false ↦ λ f. absurd cc ] e)

pub for_itself : (s : Change) → is_some (if_for s.message.view (Some s)) ≡ true
for_itself s = ap (λ (b : Bool). is_some (cond b (Some s) None)) (eq-eqb s.message.view s.message.view refl)

module _ (leads : ℕ → Bool) where
  -- one who has asked for a view above that one, which is led, has a VIEW-CHANGE for it there
  abbrev pub IsThere : (view asked : ℕ) → Option Change → Type 0
  IsThere view a c = view < a → leads a ≡ true → is_some (if_for a c) ≡ true

  abbrev pub AreThere : (view : ℕ) → List ℕ → List (Option Change) → Type 0
  AreThere view [] [] = Unit {0}
  AreThere view (a ∷ us) (c ∷ cs) = IsThere view a c × AreThere view us cs
  AreThere view us cs = ⊥

  pub none_there : (n : ℕ) → AreThere 0 (replicate n 0) (replicate n None)
  none_there zero = tt
  none_there (suc n) = (λ lt _. absurd (omega (arith, lt)), none_there n)

  pub keep_there : (view i a : ℕ) (c : Option Change) (us : List ℕ) (cs : List (Option Change)) → IsThere view a c → AreThere view us cs → AreThere view (slice_set us i a) (slice_set cs i c)
  keep_there view i a c [] [] is are = tt
  keep_there view i a c [] (d ∷ cs) is are = absurd are
  keep_there view i a c (x ∷ us) [] is are = absurd are
  keep_there view zero a c (x ∷ us) (d ∷ cs) is are = (is, are.1)
  keep_there view (suc i) a c (x ∷ us) (d ∷ cs) is are = (are.0, keep_there view i a c us cs is are.1)

  -- of a view that it doesn't lead
  pub note_there : (view i a : ℕ) (us : List ℕ) (cs : List (Option Change)) → leads a ≡ false → AreThere view us cs → AreThere view (slice_set us i a) cs
  note_there view i a [] [] other are = tt
  note_there view i a [] (d ∷ cs) other are = absurd are
  note_there view i a (x ∷ us) [] other are = absurd are
  note_there view zero a (x ∷ us) (d ∷ cs) other are = (λ _ led. absurd (cc (other, led)), are.1)
  note_there view (suc i) a (x ∷ us) (d ∷ cs) other are = (are.0, note_there view i a us cs other are.1)

  above : (view v a : ℕ) (c : Option Change) → view ≤ v → IsThere view a c → IsThere v a (if_above v c)
  above view v a None le is later led = is (omega (arith, le, later)) led
  above view v a (Some s) le is later led =
      let there = is (omega (arith, le, later)) led in
      let of_view = is_for a s there in
      let stays : nat_lt v s.message.view ≡ true = lt-ltb v s.message.view (omega (arith, of_view, later)) in
      subst (λ (b : Bool). is_some (if_for a (cond b (Some s) None)) ≡ true) (sym stays) there

  pub above_there : (view v : ℕ) (us : List ℕ) (cs : List (Option Change)) → view ≤ v → AreThere view us cs → AreThere v us (map (if_above v) cs)
  above_there view v [] [] le are = tt
  above_there view v [] (c ∷ cs) le are = absurd are
  above_there view v (a ∷ us) [] le are = absurd are
  above_there view v (a ∷ us) (c ∷ cs) le are = (above view v a c le are.0, above_there view v us cs le are.1)

  pub as_many : (view : ℕ) (us : List ℕ) (cs : List (Option Change)) → AreThere view us cs → length us ≡ length cs
  as_many view [] [] are = refl
  as_many view [] (c ∷ cs) are = absurd are
  as_many view (a ∷ us) [] are = absurd are
  as_many view (a ∷ us) (c ∷ cs) are = ap suc (as_many view us cs are.1)

  -- so many who have asked for a view have one there
  pub many_there : (p : ℕ → Bool) (view v k n : ℕ) (us : List ℕ) (cs : List (Option Change)) → AreThere view us cs → view < v → leads v ≡ true → k + length us ≡ n
      → ((j : ℕ) → p (k + j) ≡ true → get_or us j 0 ≡ v) → count_below p n ≤ length (filter_map (if_for v) cs) + count_below p k
  many_there p view v k n [] [] are lt led e asked = let at : k ≡ n = omega (arith, e) in subst (λ (m : ℕ). count_below p m ≤ 0 + count_below p k) at (omega arith)
  many_there p view v k n [] (c ∷ cs) are lt led e asked = absurd are
  many_there p view v k n (a ∷ us) [] are lt led e asked = absurd are
  many_there p view v k n (a ∷ us) (c ∷ cs) are lt led e asked =
      let rest = many_there p view v (suc k) n us cs are.1 lt led (omega (arith, e)) (λ j is. let at : suc k + j ≡ k + suc j = omega arith in asked (suc j) (subst (λ (m : ℕ). p m ≡ true) at is)) in
      let less : length (filter_map (if_for v) cs) ≤ length (cons_option (if_for v c) (filter_map (if_for v) cs)) = no_fewer (if_for v c) (filter_map (if_for v) cs) in
      elim (cases_Bool (p k)) [
        | inl one ↦
            let at : k ≡ k + 0 = omega arith in
            let of_view : a ≡ v = asked 0 (subst (λ (m : ℕ). p m ≡ true) at one) in
            let there : is_some (if_for v c) ≡ true = subst (λ (x : ℕ). is_some (if_for x c) ≡ true) of_view (are.0 (subst (λ (x : ℕ). view < x) (sym of_view) lt) (subst (λ (x : ℕ). leads x ≡ true) (sym of_view) led)) in
            let more : length (cons_option (if_for v c) (filter_map (if_for v) cs)) ≡ 1 + length (filter_map (if_for v) cs) = one_more (if_for v c) (filter_map (if_for v) cs) there in
            let next : count_below p (suc k) ≡ 1 + count_below p k = ap (λ (b : Bool). cond b (1 + count_below p k) (count_below p k)) one in
            omega (arith, rest, more, next)
        | inr other ↦
            let next : count_below p (suc k) ≡ count_below p k = ap (λ (b : Bool). cond b (1 + count_below p k) (count_below p k)) other in
            omega (arith, rest, less, next)
      ]
    where
      no_fewer : (o : Option Change) (cs : List Change) → length cs ≤ length (cons_option o cs)
      no_fewer None cs = omega arith
      no_fewer (Some c) cs = omega arith

      one_more : (o : Option Change) (cs : List Change) → is_some o ≡ true → length (cons_option o cs) ≡ 1 + length cs
      one_more None cs is = absurd cc
      one_more (Some c) cs is = omega arith
