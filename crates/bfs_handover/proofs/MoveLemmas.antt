-- What is at home when inodes are lent out and brought home.
use Rattle.std.proofs.Common.{◌≡◌, ℕ, zero, suc, ◌+◌, ◌<◌, length, get_or, drop, take, is_some, not, true≢false, add-one, eqb, eq-eqb, Bool, true, false, cond, List, [], ◌∷◌, ◌++◌, Option, Some, None, refl, ap, sym, ◌∙◌, eqb-true}
use Rattle.std.specs.Prelude.{◌==◌, ◌||◌, ⊤}
use Rattle.std.proofs.Math.Bool.{or_assoc}
use Rattle.std.proofs.Math.Seq.{drop-cons}
use Rattle.bfs_model.proofs.Public.{itself, same_test}
use Rattle.std.specs.FinMap.{get, insert, remove, get-insert, same_map, nat_cmp-IsAntisymmetric}
use Rattle.std.proofs.lemmas.Bool.{false_from_ne_true, or_from, or_right}
use Rattle.std.proofs.lemmas.Cmp.{nat_cmp_total}
use Rattle.bfs_model.specs.Server.Tree.{Inode, Inodes}
use Rattle.bfs_tree.specs.Slots.{Slots}
use Rattle.bfs_tree.specs.Tree.{at_home, lent, reach_of}
use Rattle.bfs_tree.specs.declared.slots.Slot.TheVariants.{Lent}
use Rattle.bfs_tree.proofs.Public.{home_lent, lent_lent}
use Rattle.bfs_model.specs.Server.Conflicts.{among, set_at}
use Rattle.bfs_handover.specs.Loans.{ids_of, loaned, put_in}
use Rattle.bfs_handover.specs.Moves.{AreAtHome, AreDistinct, AreOwned, lent_out, taken}
use Rattle.bfs_handover.specs.declared.loans.Loan.{Loan}
use Rattle.bfs_handover.proofs.LoanLemmas.{get-set_at}

back_at : (m : Inodes) (id q : ℕ) (b : Bool) → (id == q) ≡ b → cond b (get m id) (cond b None (get m q)) ≡ get m q
back_at m id q true is = ap (get m) (eqb-true id q is)
back_at m id q false is = refl

-- to take what is there, or that nothing is, and put it back changes nothing
back : (m : Inodes) (id : ℕ) → set_at (remove m id) id (get m id) ≡ m
back m id = same_map nat_cmp_total nat_cmp-IsAntisymmetric _ _ (λ q.
    get-set_at (remove m id) id (get m id) q ∙ ap (cond (id == q) (get m id)) (get-set_at m id None q) ∙ back_at m id q (id == q) refl)

pub nothing_lost : (ids : List ℕ) (s : Slots) → put_in (taken ids s) (at_home (lent_out ids s)) ≡ at_home s
nothing_lost [] s = refl
nothing_lost (id ∷ ids) s =
    ap (λ m. set_at m id (get (at_home s) id)) (nothing_lost ids (insert s id Lent) ∙ home_lent s id)
    ∙ back (at_home s) id

pub from_here : (ids : List ℕ) (at id : ℕ) → at < length ids → id ≡ get_or ids at id → drop at ids ≡ id ∷ drop (at + 1) ids
from_here ids at id lt is = rw add-one (drop-cons ids at id lt ∙ ap (λ (first : ℕ). first ∷ drop (suc at) ids) (sym is))

-- What can be taken ---------------------------------------------------------------------------------------------------------

other : (id q : ℕ) (ids : List ℕ) (b : Bool) → eqb id q ≡ b → among ids id ≡ false → among ids q ≡ true → b ≡ false
other id q ids true is apart member = absurd (true≢false (sym member ∙ ap (among ids) (sym (eqb-true id q is)) ∙ apart))
other id q ids false is apart member = refl

owned_when_out : (s : Slots) (id q : ℕ) → (id == q) ≡ false → (reach_of s).owned q ≡ true → (reach_of (insert s id Lent)).owned q ≡ true
owned_when_out s id q apart owned =
    ap (λ o. not (is_some o)) (ap (λ m. get m q) (lent_lent s id) ∙ get-insert nat_cmp_total (lent s) id tt q ∙ ap (λ b. cond b (Some tt) (get (lent s) q)) (same_test q id ∙ apart)) ∙ owned

pub are_at_home : (ids : List ℕ) (s : Slots) → AreOwned s ids → AreDistinct ids → AreAtHome s ids
are_at_home [] s owned distinct = tt
are_at_home (id ∷ ids) s owned distinct = (
  owned id (ap (λ b. b || among ids id) (eq-eqb id id refl)),
  are_at_home ids (insert s id Lent)
      (λ q member. owned_when_out s id q (other id q ids (eqb id q) refl distinct.0 member) (owned q (or_right (id == q) (among ids q) member)))
      distinct.1,
)

not_owned : (s : Slots) (id : ℕ) → (reach_of (insert s id Lent)).owned id ≡ false
not_owned s id = ap (λ o. not (is_some o)) (ap (λ m. get m id) (lent_lent s id) ∙ get-insert nat_cmp_total (lent s) id tt id ∙ ap (λ b. cond b (Some tt) (get (lent s) id)) (itself id))

owned_before : (s : Slots) (id q : ℕ) → (reach_of (insert s id Lent)).owned q ≡ true → (reach_of s).owned q ≡ true
owned_before s id q owned = by_test (id == q) refl
  where
    by_test : (b : Bool) → (id == q) ≡ b → (reach_of s).owned q ≡ true
    by_test true e = absurd (true≢false (sym owned ∙ ap (reach_of (insert s id Lent)).owned (sym (eqb-true id q e)) ∙ not_owned s id))
    by_test false e =
        sym (ap (λ o. not (is_some o)) (ap (λ m. get m q) (lent_lent s id) ∙ get-insert nat_cmp_total (lent s) id tt q ∙ ap (λ b. cond b (Some tt) (get (lent s) q)) (same_test q id ∙ e))) ∙ owned

owned_by : (id q : ℕ) (ids : List ℕ) (s : Slots) (b : Bool) → (id == q) ≡ b → (b || among ids q) ≡ true → (reach_of s).owned id ≡ true → (among ids q ≡ true → (reach_of (insert s id Lent)).owned q ≡ true) → (reach_of s).owned q ≡ true
owned_by id q ids s true e member here rest = ap (reach_of s).owned (sym (eqb-true id q e)) ∙ here
owned_by id q ids s false e member here rest = owned_before s id q (rest member)

pub owned_at_home : (ids : List ℕ) (s : Slots) → AreAtHome s ids → AreOwned s ids
owned_at_home [] s home q member = absurd (true≢false (sym member))
owned_at_home (id ∷ ids) s home q member = owned_by id q ids s (id == q) refl member home.0 (owned_at_home ids (insert s id Lent) home.1 q)

pub distinct_at_home : (ids : List ℕ) (s : Slots) → AreAtHome s ids → AreDistinct ids
distinct_at_home [] s home = tt
distinct_at_home (id ∷ ids) s home = (
  false_from_ne_true (among ids id) (λ both. true≢false (sym (owned_at_home ids (insert s id Lent) home.1 id both) ∙ not_owned s id)),
  distinct_at_home ids (insert s id Lent) home.1,
)

-- Lists of fileids ---------------------------------------------------------------------------------------------------------

pub among_both : (xs ys : List ℕ) (q : ℕ) → among (xs ++ ys) q ≡ (among xs q || among ys q)
among_both [] ys q = refl
among_both (x ∷ xs) ys q = ap (λ b. (x == q) || b) (among_both xs ys q) ∙ sym (or_assoc (x == q) (among xs q) (among ys q))

pub none_among : (xs ys : List ℕ) (q : ℕ) → among xs q ≡ false → among ys q ≡ false → among (xs ++ ys) q ≡ false
none_among xs ys q one two = among_both xs ys q ∙ or_from (among xs q) (among ys q) one two

pub distinct_both : (xs ys : List ℕ) → AreDistinct xs → AreDistinct ys → ((q : ℕ) → among xs q ≡ true → among ys q ≡ false) → AreDistinct (xs ++ ys)
distinct_both [] ys one two apart = two
distinct_both (x ∷ xs) ys one two apart = (
  none_among xs ys x one.0 (apart x (ap (λ b. b || among xs x) (eq-eqb x x refl))),
  distinct_both xs ys one.1 two (λ q is. apart q (or_right (x == q) (among xs q) is)),
)

pub out_both : (xs ys : List ℕ) (s : Slots) → lent_out (xs ++ ys) s ≡ lent_out ys (lent_out xs s)
out_both [] ys s = refl
out_both (x ∷ xs) ys s = out_both xs ys (insert s x Lent)

pub at_home_both : (xs ys : List ℕ) (s : Slots) → AreAtHome s xs → AreAtHome (lent_out xs s) ys → AreAtHome s (xs ++ ys)
at_home_both [] ys s one two = two
at_home_both (x ∷ xs) ys s one two = (one.0, at_home_both xs ys (insert s x Lent) one.1 two)

pub at_home_first : (n : ℕ) (ids : List ℕ) (s : Slots) → AreAtHome s ids → AreAtHome s (take n ids)
at_home_first zero ids s home = tt
at_home_first (suc n) [] s home = tt
at_home_first (suc n) (id ∷ ids) s home = (home.0, at_home_first n ids (insert s id Lent) home.1)

pub taken_both : (xs ys : List ℕ) (s : Slots) → taken (xs ++ ys) s ≡ taken xs s ++ taken ys (lent_out xs s)
taken_both [] ys s = refl
taken_both (x ∷ xs) ys s = ap (λ (loans : List Loan). record { id = x; inode = get (at_home s) x } ∷ loans) (taken_both xs ys (insert s x Lent))

-- What is out ----------------------------------------------------------------------------------------------------------------

gone : (a b : Bool) (o : Option Inode) → cond b None (cond a None o) ≡ cond (a || b) None o
gone true true o = refl
gone true false o = refl
gone false b o = refl

home_without : (s : Slots) (id q : ℕ) → get (at_home (insert s id Lent)) q ≡ cond (id == q) None (get (at_home s) q)
home_without s id q = ap (λ m. get m q) (home_lent s id) ∙ get-set_at (at_home s) id None q

pub home_out : (ids : List ℕ) (s : Slots) (q : ℕ) → get (at_home (lent_out ids s)) q ≡ cond (among ids q) None (get (at_home s) q)
home_out [] s q = refl
home_out (id ∷ ids) s q = home_out ids (insert s id Lent) q ∙ ap (cond (among ids q) None) (home_without s id q) ∙ gone (id == q) (among ids q) (get (at_home s) q)

out_by : (a b : Bool) (o : Option ⊤) → (b || is_some (cond a (Some tt) o)) ≡ ((a || b) || is_some o)
out_by true true o = refl
out_by true false o = refl
out_by false b o = refl

pub is_out : (ids : List ℕ) (s : Slots) (q : ℕ) → is_some (get (lent (lent_out ids s)) q) ≡ (among ids q || is_some (get (lent s) q))
is_out [] s q = refl
is_out (id ∷ ids) s q =
    is_out ids (insert s id Lent) q
    ∙ ap (λ o. among ids q || is_some o) (ap (λ m. get m q) (lent_lent s id) ∙ get-insert nat_cmp_total (lent s) id tt q ∙ ap (λ b. cond b (Some tt) (get (lent s) q)) (same_test q id))
    ∙ out_by (id == q) (among ids q) (get (lent s) q)

pub ids_taken : (ids : List ℕ) (s : Slots) → ids_of (taken ids s) ≡ ids
ids_taken [] s = refl
ids_taken (id ∷ ids) s = ap (λ xs. id ∷ xs) (ids_taken ids (insert s id Lent))

-- what was taken of a fileid is what was at home
taken_by : (id q : ℕ) (ids : List ℕ) (s : Slots) (b : Bool) → (id == q) ≡ b → (b || among ids q) ≡ true → (among ids q ≡ true → loaned (taken ids (insert s id Lent)) q ≡ get (at_home (insert s id Lent)) q)
    → cond b (get (at_home s) id) (loaned (taken ids (insert s id Lent)) q) ≡ get (at_home s) q
taken_by id q ids s true is member rest = ap (get (at_home s)) (eqb-true id q is)
taken_by id q ids s false is member rest = rest member ∙ home_without s id q ∙ ap (λ b. cond b None (get (at_home s) q)) is

pub loaned_taken : (ids : List ℕ) (s : Slots) (q : ℕ) → among ids q ≡ true → loaned (taken ids s) q ≡ get (at_home s) q
loaned_taken [] s q is = absurd (true≢false (sym is))
loaned_taken (id ∷ ids) s q is = taken_by id q ids s (id == q) refl is (loaned_taken ids (insert s id Lent) q)
