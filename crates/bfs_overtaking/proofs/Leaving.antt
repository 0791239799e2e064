-- One inode more leaves the tree.
use Rattle.std.proofs.Common.{◌≡◌, ℕ, zero, suc, ◌<◌, length, get_or, arith, eq-eqb, Bool, true, false, cond, not, ◌||◌, true≢false, List, [], ◌∷◌, ◌++◌, Option, Some, None, is_some, refl, ap, sym, subst, ◌∙◌, eqb, eqb-true}
use Rattle.std.specs.FinMap.{get, insert, contains_key, get-insert}
use Rattle.std.proofs.lemmas.Cmp.{nat_cmp_total}
use Rattle.std.proofs.lemmas.Bool.{or_left, or_right}
use Rattle.bfs_model.specs.Server.Tree.{Inode}
use Rattle.bfs_model.specs.Server.Conflicts.{among}
use Rattle.bfs_model.proofs.Public.{get-without, itself, same_inodes}
use Rattle.bfs_tree.specs.Slots.{Slots}
use Rattle.bfs_tree.specs.Tree.{at_home, lent, reserved, reserved_in}
use Rattle.bfs_tree.specs.declared.slots.Slot.{Slot}
use Rattle.bfs_tree.specs.declared.slots.Slot.TheVariants.{Free, Lent}
use Rattle.bfs_tree.proofs.Public.{home_free, lent_free, remove_absent, no_home_at, no_loan_at}
use Rattle.bfs_handover.specs.Loans.{ids_of, loaned}
use Rattle.bfs_handover.specs.Moves.{AreDistinct, AreOwned}
use Rattle.bfs_handover.specs.declared.loans.Loan.{Loan}
use Rattle.bfs_handover.proofs.Public.{home_out, is_out, among_both, distinct_both}
use Rattle.bfs_overtaking.specs.Inside.Lent.{AreLentOut}

has_reserved_in : (s : Slots) (id : ℕ) (o : Option Slot) → get s id ≡ o → contains_key (reserved_in s id o) id ≡ true
has_reserved_in s id (Some slot) is = ap is_some is
has_reserved_in s id None is = ap is_some (get-insert nat_cmp_total s id Free id ∙ ap (λ b. cond b (Some Free) (get s id)) (itself id))

pub has_reserved : (s : Slots) (id : ℕ) → contains_key (reserved s id) id ≡ true
has_reserved s id = has_reserved_in s id (get s id) refl

home_reserved_in : (s : Slots) (id : ℕ) (o : Option Slot) → get s id ≡ o → at_home (reserved_in s id o) ≡ at_home s
home_reserved_in s id (Some slot) is = refl
home_reserved_in s id None is = home_free s id ∙ remove_absent (at_home s) id (no_home_at s id is)

home_reserved : (s : Slots) (id : ℕ) → at_home (reserved s id) ≡ at_home s
home_reserved s id = home_reserved_in s id (get s id) refl

lent_reserved_in : (s : Slots) (id : ℕ) (o : Option Slot) → get s id ≡ o → lent (reserved_in s id o) ≡ lent s
lent_reserved_in s id (Some slot) is = refl
lent_reserved_in s id None is = lent_free s id ∙ remove_absent (lent s) id (no_loan_at s id is)

lent_reserved : (s : Slots) (id : ℕ) → lent (reserved s id) ≡ lent s
lent_reserved s id = lent_reserved_in s id (get s id) refl

ids_more : (loans : List Loan) (loan : Loan) → ids_of (loans ++ loan ∷ []) ≡ ids_of loans ++ loan.id ∷ []
ids_more [] loan = refl
ids_more (first ∷ loans) loan = ap (λ ids. first.id ∷ ids) (ids_more loans loan)

loaned_more : (loans : List Loan) (loan : Loan) (q : ℕ) → loaned (loans ++ loan ∷ []) q ≡ cond (among (ids_of loans) q) (loaned loans q) (cond (eqb loan.id q) loan.inode None)
loaned_more [] loan q = refl
loaned_more (first ∷ loans) loan q = ap (cond (eqb first.id q) first.inode) (loaned_more loans loan q) ∙ by_test (eqb first.id q)
  where
    by_test : (b : Bool) → cond b first.inode (cond (among (ids_of loans) q) (loaned loans q) (cond (eqb loan.id q) loan.inode None)) ≡ cond (b || among (ids_of loans) q) (cond b first.inode (loaned loans q)) (cond (eqb loan.id q) loan.inode None)
    by_test true = refl
    by_test false = refl

or_false : (b : Bool) → (b || false) ≡ b
or_false true = refl
or_false false = refl

module _ (old t : Slots) (ids : List ℕ) (loans : List Loan) (are : AreLentOut old t ids loans) (x : ℕ) where
  pub passed_over : among (ids_of loans) x ≡ true → AreLentOut old t (ids ++ x ∷ []) loans
  passed_over is = record {
    home = are.home ∙ same_inodes _ _ (λ q. get-without ids (at_home old) q ∙ ap (λ b. cond (not b) (get (at_home old) q) None) (sym (same_ids q)) ∙ sym (get-without (ids ++ x ∷ []) (at_home old) q));
    out = λ q. are.out q ∙ ap (λ b. b || is_some (get (lent old) q)) (sym (same_ids q));
    same = λ q. are.same q ∙ sym (same_ids q);
    distinct = are.distinct;
    values = λ q its. are.values q (sym (same_ids q) ∙ its);
  }
    where
      by_test : (q : ℕ) (b : Bool) → eqb x q ≡ b → (among ids q || (b || false)) ≡ among ids q
      by_test q true e = let there : among ids q ≡ true = ap (among ids) (sym (eqb-true x q e)) ∙ sym (are.same x) ∙ is in or_right (among ids q) true refl ∙ sym there
      by_test q false e = or_false (among ids q)

      same_ids : (q : ℕ) → among (ids ++ x ∷ []) q ≡ among ids q
      same_ids q = among_both ids (x ∷ []) q ∙ by_test q (eqb x q) refl

  -- it is still where it was
  pub still_there : among (ids_of loans) x ≡ false → is_some (get (lent old) x) ≡ false → is_some (get (lent (reserved t x)) x) ≡ false
  still_there new here = ap (λ m. is_some (get m x)) (lent_reserved t x) ∙ are.out x ∙ ap (λ b. b || is_some (get (lent old) x)) (sym (are.same x) ∙ new) ∙ here

  abbrev one : Loan
  one = record { id = x; inode = get (at_home (reserved t x)) x }

  pub one_more : among (ids_of loans) x ≡ false → AreLentOut old (insert (reserved t x) x Lent) (ids ++ x ∷ []) (loans ++ one ∷ [])
  one_more new = record {
    home = same_inodes _ _ (λ q.
        home_out (x ∷ []) (reserved t x) q
        ∙ ap (λ m. cond (eqb x q || false) None (get m q)) (home_reserved t x ∙ are.home)
        ∙ ap (cond (eqb x q || false) None) (get-without ids (at_home old) q)
        ∙ gone (eqb x q || false) (among ids q) (get (at_home old) q)
        ∙ ap (λ b. cond (not b) (get (at_home old) q) None) (sym (among_both ids (x ∷ []) q))
        ∙ sym (get-without (ids ++ x ∷ []) (at_home old) q));
    out = λ q.
        is_out (x ∷ []) (reserved t x) q
        ∙ ap (λ m. (eqb x q || false) || is_some (get m q)) (lent_reserved t x)
        ∙ ap (λ b. (eqb x q || false) || b) (are.out q)
        ∙ turned (eqb x q || false) (among ids q) (is_some (get (lent old) q))
        ∙ ap (λ b. b || is_some (get (lent old) q)) (sym (among_both ids (x ∷ []) q));
    same = λ q. ap (λ xs. among xs q) (ids_more loans one) ∙ among_both (ids_of loans) (x ∷ []) q ∙ ap (λ b. b || (eqb x q || false)) (are.same q) ∙ sym (among_both ids (x ∷ []) q);
    distinct = subst AreDistinct (sym (ids_more loans one)) (distinct_both (ids_of loans) (x ∷ []) are.distinct (refl, tt) (λ q is. apart_from q (eqb x q) refl is));
    values = λ q is. loaned_more loans one q ∙ value q (among (ids_of loans) q) (eqb x q) refl refl (sym (among_both ids (x ∷ []) q) ∙ is);
  }
    where
      gone : {X : Type 0} (a b : Bool) (o : Option X) → cond a None (cond (not b) o None) ≡ cond (not (b || a)) o None
      gone true true o = refl
      gone true false o = refl
      gone false true o = refl
      gone false false o = refl

      turned : (a b c : Bool) → (a || (b || c)) ≡ ((b || a) || c)
      turned true true c = refl
      turned true false c = refl
      turned false true c = refl
      turned false false c = refl

      apart_from : (q : ℕ) (b : Bool) → eqb x q ≡ b → among (ids_of loans) q ≡ true → (b || false) ≡ false
      apart_from q true e is = absurd (true≢false (sym is ∙ ap (among (ids_of loans)) (sym (eqb-true x q e)) ∙ new))
      apart_from q false e is = refl

      here : get (at_home (reserved t x)) x ≡ get (at_home old) x
      here = ap (λ m. get m x) (home_reserved t x ∙ are.home) ∙ get-without ids (at_home old) x ∙ ap (λ b. cond (not b) (get (at_home old) x) None) (sym (are.same x) ∙ new)

      value : (q : ℕ) (a b : Bool) → among (ids_of loans) q ≡ a → eqb x q ≡ b → (among ids q || (eqb x q || false)) ≡ true → cond a (loaned loans q) (cond b one.inode None) ≡ get (at_home old) q
      value q true b has e is = are.values q (sym (are.same q) ∙ has)
      value q false true has e is = here ∙ ap (get (at_home old)) (eqb-true x q e)
      value q false false has e is = absurd (true≢false (sym is ∙ ap (λ c. c || (eqb x q || false)) (sym (are.same q) ∙ has) ∙ ap (λ c. c || false) e))

pub none_yet : (s : Slots) → AreLentOut s s [] []
none_yet s = record {
  home = same_inodes _ _ (λ q. sym (get-without [] (at_home s) q));
  out = λ q. refl;
  same = λ q. refl;
  distinct = tt;
  values = λ q is. absurd (true≢false (sym is));
}

module _ (old t : Slots) (ids : List ℕ) (loans : List Loan) (are : AreLentOut old t ids loans) (x : ℕ) (new : among (ids_of loans) x ≡ false) where
  pub left_tree : (placed after : Slots) (loans_after : List Loan) (inode : Option Inode) → placed ≡ reserved t x → after ≡ insert placed x Lent → inode ≡ get (at_home placed) x
      → loans_after ≡ loans ++ record { id = x; inode = inode } ∷ [] → AreLentOut old after (ids ++ x ∷ []) loans_after
  left_tree placed after loans_after inode place out taken more =
      let inode_is : inode ≡ get (at_home (reserved t x)) x = taken ∙ ap (λ s. get (at_home s) x) place in
      subst (λ s. AreLentOut old s (ids ++ x ∷ []) loans_after) (sym (out ∙ ap (λ s. insert s x Lent) place))
      (subst (AreLentOut old (insert (reserved t x) x Lent) (ids ++ x ∷ [])) (sym (more ∙ ap (λ o. loans ++ record { id = x; inode = o } ∷ []) inode_is)) (one_more old t ids loans are x new))

among_there : (ids : List ℕ) (k id : ℕ) → k < length ids → id ≡ get_or ids k id → among ids id ≡ true
among_there [] k id less is = absurd (omega arith)
among_there (x ∷ ids) zero id less is = or_left (eqb x id) (among ids id) (eq-eqb x id (sym is))
among_there (x ∷ ids) (suc k) id less is = or_right (eqb x id) (among ids id) (among_there ids k id (omega arith) is)

-- what stands among fileids that are not lent out is not lent out
pub at_home_before : (ids : List ℕ) (k id : ℕ) → k < length ids → id ≡ get_or ids k id → (s : Slots) → AreOwned s ids → is_some (get (lent s) id) ≡ false
at_home_before ids k id less is s owned = not_true (is_some (get (lent s) id)) (owned id (among_there ids k id less is))
  where
    not_true : (b : Bool) → not b ≡ true → b ≡ false
    not_true true it = absurd (true≢false (sym it))
    not_true false it = refl
