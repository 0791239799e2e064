-- What a look-up and a change of the loans do to the inodes with the loans put back.
use Rattle.std.proofs.Common.{◌≡◌, ℕ, suc, ◌+◌, ◌<◌, ◌≤◌, Bool, true, false, cond, not, true≢false, List, [], ◌∷◌, length, Option, Some, None, is_some, refl, ap, sym, subst, ◌∙◌, arith, eqb-true, eq-eqb, ltb-true, ltb-false}
use Rattle.std.specs.Prelude.{◌==◌, ◌||◌, nat_lt, unwrap_or, IfSome, IfNone}
use Rattle.std.specs.Option.{ForSome, ForNone}
use Rattle.std.specs.Borrow.{MutBor}
use Rattle.std.specs.List.{list_any, position, position_or_len}
use Rattle.std.specs.FinMap.{get, insert, remove, same_map, nat_cmp-IsAntisymmetric}
use Rattle.std.proofs.lemmas.Cmp.{nat_cmp_total}
use Rattle.bfs_model.specs.Server.Tree.{Inode, Inodes}
use Rattle.bfs_model.proofs.Public as sums
use Rattle.bfs_handover.specs.declared.loans.Loan.{Loan}
use Rattle.bfs_handover.specs.Inside.Places.{IsPlace, IsNowhere}
use Rattle.bfs_model.specs.Server.Conflicts.{among, set_at}
use Rattle.bfs_handover.specs.Loans.{ids_of, loaned, with_loan, put_in}

pub among_ids : (loans : List Loan) (id : ℕ) → list_any (λ loan. loan.id == id) loans ≡ among (ids_of loans) id
among_ids [] id = refl
among_ids (loan ∷ loans) id = ap (λ b. (loan.id == id) || b) (among_ids loans id)

pub ids_with : (loans : List Loan) (id : ℕ) (o : Option Inode) → ids_of (with_loan loans id o) ≡ ids_of loans
ids_with [] id o = refl
ids_with (loan ∷ loans) id o = elim (loan.id == id) as (λ b. ids_of (cond b (record loan { inode = o } ∷ loans) (loan ∷ with_loan loans id o)) ≡ loan.id ∷ ids_of loans) [ true ↦ refl | false ↦ ap (λ ids. loan.id ∷ ids) (ids_with loans id o) ]

pub get-set_at : (m : Inodes) (k : ℕ) (o : Option Inode) (q : ℕ) → get (set_at m k o) q ≡ cond (k == q) o (get m q)
get-set_at m k None q = sums.get-set_at m k None q
get-set_at m k (Some x) q = sums.get-set_at m k (Some x) q

pub get-put_in : (loans : List Loan) (m : Inodes) (q : ℕ) → get (put_in loans m) q ≡ cond (among (ids_of loans) q) (loaned loans q) (get m q)
get-put_in [] m q = refl
get-put_in (loan ∷ loans) m q =
    get-set_at (put_in loans m) loan.id loan.inode q
    ∙ ap (cond (loan.id == q) loan.inode) (get-put_in loans m q)
    ∙ elim (loan.id == q) as (λ b. cond b loan.inode (cond (among (ids_of loans) q) (loaned loans q) (get m q)) ≡ cond (b || among (ids_of loans) q) (cond b loan.inode (loaned loans q)) (get m q)) [ true ↦ refl | false ↦ refl ]

pub get_owned : (loans : List Loan) (m : Inodes) (q : ℕ) → among (ids_of loans) q ≡ true → get (put_in loans m) q ≡ loaned loans q
get_owned loans m q is = get-put_in loans m q ∙ ap (λ b. cond b (loaned loans q) (get m q)) is

pub get_borrowed : (loans : List Loan) (m : Inodes) (q : ℕ) → among (ids_of loans) q ≡ false → get (put_in loans m) q ≡ get m q
get_borrowed loans m q is = get-put_in loans m q ∙ ap (λ b. cond b (loaned loans q) (get m q)) is

swapped : {X : Type 0} (k id q : ℕ) (x o y : X) (b c : Bool) → (k == q) ≡ b → (id == q) ≡ c → (k == id) ≡ false → cond b x (cond c o y) ≡ cond c o (cond b x y)
swapped k id q x o y true true kq idq apart = absurd (true≢false (sym (eq-eqb k id (eqb-true k q kq ∙ sym (eqb-true id q idq))) ∙ apart))
swapped k id q x o y true false kq idq apart = refl
swapped k id q x o y false c kq idq apart = refl

twice : {X : Type 0} (b : Bool) (o x y : X) → cond b o y ≡ cond b o (cond b x y)
twice true o x y = refl
twice false o x y = refl

loaned_at : (loan : Loan) (loans : List Loan) (id : ℕ) (o : Option Inode) (q : ℕ) (b : Bool) → (loan.id == id) ≡ b → (b ≡ false → loaned (with_loan loans id o) q ≡ cond (id == q) o (loaned loans q))
    → loaned (cond b (record loan { inode = o } ∷ loans) (loan ∷ with_loan loans id o)) q ≡ cond (id == q) o (cond (loan.id == q) loan.inode (loaned loans q))
loaned_at loan loans id o q true e rest = subst (λ k. cond (loan.id == q) o (loaned loans q) ≡ cond (k == q) o (cond (loan.id == q) loan.inode (loaned loans q))) (eqb-true loan.id id e) (twice (loan.id == q) o loan.inode (loaned loans q))
loaned_at loan loans id o q false e rest = ap (cond (loan.id == q) loan.inode) (rest refl) ∙ swapped loan.id id q loan.inode o (loaned loans q) (loan.id == q) (id == q) refl refl e

loaned_with : (loans : List Loan) (id : ℕ) (o : Option Inode) (q : ℕ) → among (ids_of loans) id ≡ true → loaned (with_loan loans id o) q ≡ cond (id == q) o (loaned loans q)
loaned_with [] id o q is = absurd (true≢false (sym is))
loaned_with (loan ∷ loans) id o q is = loaned_at loan loans id o q (loan.id == id) refl (λ e. loaned_with loans id o q (ap (λ b. b || among (ids_of loans) id) (sym e) ∙ is))

put_by : (loans : List Loan) (m : Inodes) (id q : ℕ) (o : Option Inode) (b : Bool) → (id == q) ≡ b → among (ids_of loans) id ≡ true
    → cond (among (ids_of loans) q) (cond b o (loaned loans q)) (get m q) ≡ cond b o (cond (among (ids_of loans) q) (loaned loans q) (get m q))
put_by loans m id q o true e is = ap (λ c. cond c o (get m q)) (ap (among (ids_of loans)) (sym (eqb-true id q e)) ∙ is)
put_by loans m id q o false e is = refl

-- to put in the place of a fileid that is owned is to put into the map
pub put_sets : (loans : List Loan) (m : Inodes) (id : ℕ) (o : Option Inode) → among (ids_of loans) id ≡ true → put_in (with_loan loans id o) m ≡ set_at (put_in loans m) id o
put_sets loans m id o is = same_map nat_cmp_total nat_cmp-IsAntisymmetric _ _ (λ q.
    get-put_in (with_loan loans id o) m q
    ∙ ap (λ ids. cond (among ids q) (loaned (with_loan loans id o) q) (get m q)) (ids_with loans id o)
    ∙ ap (λ x. cond (among (ids_of loans) q) x (get m q)) (loaned_with loans id o q is)
    ∙ put_by loans m id q o (id == q) refl is
    ∙ sym (get-set_at (put_in loans m) id o q ∙ ap (cond (id == q) o) (get-put_in loans m q)))

pub put_inserts : (loans : List Loan) (m : Inodes) (id : ℕ) (x : Inode) → among (ids_of loans) id ≡ true → put_in (with_loan loans id (Some x)) m ≡ insert (put_in loans m) id x
put_inserts loans m id x is = put_sets loans m id (Some x) is

pub put_removes : (loans : List Loan) (m : Inodes) (id : ℕ) → among (ids_of loans) id ≡ true → put_in (with_loan loans id None) m ≡ remove (put_in loans m) id
put_removes loans m id is = put_sets loans m id None is

-- Places -----------------------------------------------------------------------------------------------------------------

found : (b : Bool) (n i : ℕ) → cond b (Some n) None ≡ Some i → (b ≡ true) × (n ≡ i)
found true n i is = (refl, ap (λ o. unwrap_or o n) is)
found false n i is = absurd (true≢false (sym (ap is_some is)))

not_found : (b : Bool) (n : ℕ) → cond b (Some n) None ≡ None → b ≡ false
not_found true n is = absurd (true≢false (ap is_some is))
not_found false n is = refl

abbrev first : ℕ → List Loan → ℕ
first id loans = position_or_len (λ loan. loan.id == id) loans

at_by : (l : Loan) (ls : List Loan) (id : ℕ) (b : Bool) → (l.id == id) ≡ b → ((p : ℕ) → first id ls ≡ p → p < length ls → IsPlace ls id p) → (p : ℕ) → cond (not b) (1 + first id ls) 0 ≡ p → p < suc (length ls) → IsPlace (l ∷ ls) id p
at_by l ls id true e rest p is lt = subst (IsPlace (l ∷ ls) id) is (record {
  within = omega arith;
  value = λ loan at. ap (λ (x : Loan). x.inode) at ∙ sym (ap (λ b. cond b l.inode (loaned ls id)) e);
  put = λ loan o at. ap (λ (x : Loan). record x { inode = o } ∷ ls) at ∙ sym (ap (λ b. cond b (record l { inode = o } ∷ ls) (l ∷ with_loan ls id o)) e);
})
at_by l ls id false e rest p is lt =
    let next : suc (first id ls) ≡ p = omega arith in
    let there = rest (first id ls) refl (omega arith) in
    subst (IsPlace (l ∷ ls) id) next (record {
      within = omega arith;
      value = λ loan at. there.value loan at ∙ sym (ap (λ b. cond b l.inode (loaned ls id)) e);
      put = λ loan o at. ap (λ xs. l ∷ xs) (there.put loan o at) ∙ sym (ap (λ b. cond b (record l { inode = o } ∷ ls) (l ∷ with_loan ls id o)) e);
    })

at_first : (ls : List Loan) (id p : ℕ) → first id ls ≡ p → p < length ls → IsPlace ls id p
at_first [] id p is lt = absurd (omega arith)
at_first (l ∷ ls) id p is lt = at_by l ls id (l.id == id) refl (at_first ls id) p is lt

none_by : (l : Loan) (ls : List Loan) (id : ℕ) (b : Bool) → (l.id == id) ≡ b → (length ls ≤ first id ls → IsNowhere ls id) → suc (length ls) ≤ cond (not b) (1 + first id ls) 0 → IsNowhere (l ∷ ls) id
none_by l ls id true e rest le = absurd (omega arith)
none_by l ls id false e rest le =
    let there = rest (omega arith) in record {
      value = ap (λ b. cond b l.inode (loaned ls id)) e ∙ there.value;
      put = λ o. ap (λ b. cond b (record l { inode = o } ∷ ls) (l ∷ with_loan ls id o)) e ∙ ap (λ xs. l ∷ xs) (there.put o);
    }

at_none : (ls : List Loan) (id : ℕ) → length ls ≤ first id ls → IsNowhere ls id
at_none [] id le = record { value = refl; put = λ o. refl }
at_none (l ∷ ls) id le = none_by l ls id (l.id == id) refl (at_none ls id) le

pub place_found : (ls : List Loan) (id : ℕ) (r : Option ℕ) → r ≡ position (λ loan. loan.id == id) ls → IfSome r (λ place. IsPlace ls id place)
place_found ls id None is = tt
place_found ls id (Some p) is =
    let at = found (nat_lt (first id ls) (length ls)) (first id ls) p (sym is) in
    at_first ls id p at.1 (subst (λ n. n < length ls) at.1 (ltb-true (first id ls) (length ls) at.0))

pub place_nowhere : (ls : List Loan) (id : ℕ) (r : Option ℕ) → r ≡ position (λ loan. loan.id == id) ls → IfNone r (IsNowhere ls id)
place_nowhere ls id (Some p) is = tt
place_nowhere ls id None is = at_none ls id (ltb-false (first id ls) (length ls) (not_found (nat_lt (first id ls) (length ls)) (first id ls) (sym is)))

-- what a share knows but doesn't own is not lent out
pub known_at_home : (a b : Bool) → (a || b) ≡ true → a ≡ false → b ≡ true
known_at_home true b known apart = absurd (true≢false apart)
known_at_home false b known apart = known

-- what a lent inode leaves of the fileids
pub ids_after : (kept after : List Loan) (id : ℕ) (w : Inode) (r : Option (MutBor Inode)) → ForSome r (λ _. after ≡ with_loan kept id (Some w)) × ForNone r (after ≡ kept) → ids_of after ≡ ids_of kept
ids_after kept after id w (Some x) h = ap ids_of (h.0 x refl) ∙ ids_with kept id (Some w)
ids_after kept after id w None h = ap ids_of (h.1 refl)
