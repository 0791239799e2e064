-- What is at home and what is lent out when the inodes of results come home.
use Rattle.std.proofs.Common.{◌≡◌, ℕ, Bool, true, false, cond, List, [], ◌∷◌, map, get_or, Option, Some, None, is_some, Result, Ok, Err, IfErr, IsErrAnd, ◌⊎◌, inr, refl, ap, sym, subst, ◌∙◌, eqb-true, true≢false}
use Rattle.std.specs.Prelude.{◌==◌, ◌||◌}
use Rattle.std.specs.List.{All, list_any}
use Rattle.std.specs.List.Sorted.{IsPermutation, IsNonDecreasingBy, IsStrictlyIncreasing}
use Rattle.std.specs.FinMap.{get, contains_key, same_map, nat_cmp-IsAntisymmetric}
use Rattle.std.proofs.lemmas.Bool.{or_right, cond-false, false_from_ne_true}
use Rattle.std.proofs.lemmas.Cmp.{nat_cmp_total}
use Rattle.std.proofs.lemmas.List.Elements.{All-head, All-tail}
use Rattle.std.proofs.lemmas.List.Sorted.{All-permutation, IsPermutation-refl}
use Rattle.bfs_model.specs.Server.Tree.{Inode}
use Rattle.bfs_model.specs.Server.Conflicts.{among, set_at}
use Rattle.bfs_model.proofs.Public.{get-set_at, itself_among}
use Rattle.bfs_tree.specs.Slots.{Slots}
use Rattle.bfs_tree.specs.Tree.{at_home, lent, brought}
use Rattle.bfs_tree.proofs.Public.{home_insert, home_remove, lent_insert, lent_remove}
use Rattle.bfs_handover.specs.Loans.{ids_of, loaned, put_in}
use Rattle.bfs_handover.specs.Moves.{AreDistinct, AreLent, brought_home}
use Rattle.bfs_handover.specs.Merging.{AreAllLent, AreOut, IsMerged, IsOut, all_home, all_in, numbers_in, refusal, reply_in}
use Rattle.bfs_handover.specs.declared.job.Done.{Done}
use Rattle.bfs_handover.specs.declared.loans.Loan.{Loan}
use Rattle.bfs_handover.specs.declared.results.MergeError.{MergeError}
use Rattle.bfs_handover.specs.declared.results.MergeError.TheVariants.{Memory}
use Rattle.bfs_handover.specs.declared.results.NumberedReply.{NumberedReply}
use Rattle.bfs_handover.proofs.LoanLemmas.{get-put_in}
use Rattle.bfs_handover.proofs.NumberLemmas.{among_map, differ, numbers_are, refusal_moved, rises}

-- One fileid ---------------------------------------------------------------------------------------------------------------

home_brought : (s : Slots) (id : ℕ) (o : Option Inode) → at_home (brought s id o) ≡ set_at (at_home s) id o
home_brought s id None = home_remove s id
home_brought s id (Some x) = home_insert s id x

lent_brought : (s : Slots) (id : ℕ) (o : Option Inode) → lent (brought s id o) ≡ set_at (lent s) id None
lent_brought s id None = lent_remove s id
lent_brought s id (Some x) = lent_insert s id x

get-lent_brought : (s : Slots) (id : ℕ) (o : Option Inode) (q : ℕ) → get (lent (brought s id o)) q ≡ cond (id == q) None (get (lent s) q)
get-lent_brought s id o q = ap (λ l. get l q) (lent_brought s id o) ∙ get-set_at (lent s) id None q

-- One result ---------------------------------------------------------------------------------------------------------------

lent_by : {X : Type 0} (a b : Bool) (o : Option X) → cond b None (cond a None o) ≡ cond (a || b) None o
lent_by true true o = refl
lent_by true false o = refl
lent_by false b o = refl

pub get-lent_home : (loans : List Loan) (s : Slots) (q : ℕ) → get (lent (brought_home loans s)) q ≡ cond (among (ids_of loans) q) None (get (lent s) q)
get-lent_home [] s q = refl
get-lent_home (loan ∷ loans) s q =
    get-lent_home loans (brought s loan.id loan.inode) q
    ∙ ap (cond (among (ids_of loans) q) None) (get-lent_brought s loan.id loan.inode q)
    ∙ lent_by (loan.id == q) (among (ids_of loans) q) (get (lent s) q)

-- a fileid that stands once may be set first or last
either_order : {X : Type 0} (id q : ℕ) (ids : List ℕ) (b : Bool) (one other rest : X) → (id == q) ≡ b → among ids id ≡ false → cond (among ids q) other (cond b one rest) ≡ cond b one (cond (among ids q) other rest)
either_order id q ids true one other rest e single = cond-false (among ids q) other one (ap (among ids) (sym (eqb-true id q e)) ∙ single)
either_order id q ids false one other rest e single = refl

put_first : (loans : List Loan) (s : Slots) (id : ℕ) (o : Option Inode) → among (ids_of loans) id ≡ false → put_in loans (set_at (at_home s) id o) ≡ set_at (put_in loans (at_home s)) id o
put_first loans s id o single = same_map nat_cmp_total nat_cmp-IsAntisymmetric _ _ (λ q.
    get-put_in loans (set_at (at_home s) id o) q
    ∙ ap (cond (among (ids_of loans) q) (loaned loans q)) (get-set_at (at_home s) id o q)
    ∙ either_order id q (ids_of loans) (id == q) o (loaned loans q) (get (at_home s) q) refl single
    ∙ ap (cond (id == q) o) (sym (get-put_in loans (at_home s) q))
    ∙ sym (get-set_at (put_in loans (at_home s)) id o q))

-- loans of different fileids that come home are put in
pub home_is : (loans : List Loan) (s : Slots) → AreDistinct (ids_of loans) → at_home (brought_home loans s) ≡ put_in loans (at_home s)
home_is [] s distinct = refl
home_is (loan ∷ loans) s distinct =
    home_is loans (brought s loan.id loan.inode) distinct.1
    ∙ ap (put_in loans) (home_brought s loan.id loan.inode)
    ∙ put_first loans s loan.id loan.inode distinct.0

still_lent : (id q : ℕ) (ids : List ℕ) (s : Slots) (o : Option Inode) → among ids id ≡ false → among ids q ≡ true → contains_key (lent s) q ≡ true → contains_key (lent (brought s id o)) q ≡ true
still_lent id q ids s o single is out = ap is_some (get-lent_brought s id o q) ∙ by_test (id == q) refl
  where
    by_test : (b : Bool) → (id == q) ≡ b → is_some (cond b None (get (lent s) q)) ≡ true
    by_test true e = absurd (true≢false (sym is ∙ ap (among ids) (sym (eqb-true id q e)) ∙ single))
    by_test false e = out

pub are_lent : (loans : List Loan) (s : Slots) → AreDistinct (ids_of loans) → ((id : ℕ) → among (ids_of loans) id ≡ true → contains_key (lent s) id ≡ true) → AreLent s loans
are_lent [] s distinct out = tt
are_lent (loan ∷ loans) s distinct out = (
  out loan.id (itself_among loan.id (ids_of loans)),
  are_lent loans (brought s loan.id loan.inode) distinct.1 (λ q is. still_lent loan.id q (ids_of loans) s loan.inode distinct.0 is (out q (or_right (loan.id == q) (among (ids_of loans) q) is))),
)

-- All results --------------------------------------------------------------------------------------------------------------

pub home_of_all : (dones : List Done) (s : Slots) (number_of : ℕ → ℕ) (t : Slots) → All (IsOut t number_of) dones → at_home (all_home dones s) ≡ all_in dones (at_home s)
home_of_all [] s number_of t out = refl
home_of_all (done ∷ dones) s number_of t out =
    home_of_all dones (brought_home done.inodes s) number_of t (All-tail (IsOut t number_of) done dones out)
    ∙ ap (all_in dones) (home_is done.inodes s (All-head (IsOut t number_of) done dones out).distinct)

pub get-lent_all : (dones : List Done) (s : Slots) (q : ℕ) → get (lent (all_home dones s)) q ≡ cond (list_any (λ (done : Done). among (ids_of done.inodes) q) dones) None (get (lent s) q)
get-lent_all [] s q = refl
get-lent_all (done ∷ dones) s q =
    get-lent_all dones (brought_home done.inodes s) q
    ∙ ap (cond (list_any (λ (other : Done). among (ids_of other.inodes) q) dones) None) (get-lent_home done.inodes s q)
    ∙ lent_by (among (ids_of done.inodes) q) (list_any (λ (other : Done). among (ids_of other.inodes) q) dones) (get (lent s) q)

-- what is out stays out when a result of another number comes home
other_out : (s : Slots) (number_of : ℕ → ℕ) (done other : Done) → IsOut s number_of done → IsOut s number_of other → (done.number ≡ other.number → ⊥) → IsOut (brought_home done.inodes s) number_of other
other_out s number_of done other here there apart = record {
  distinct = there.distinct;
  lent_out = λ id is.
      let free : among (ids_of done.inodes) id ≡ false = false_from_ne_true (among (ids_of done.inodes) id) (λ both. apart (sym (here.owned id both) ∙ there.owned id is)) in
      ap is_some (get-lent_home done.inodes s id ∙ ap (λ b. cond b None (get (lent s) id)) free) ∙ there.lent_out id is;
  owned = there.owned;
}

others_out : (s : Slots) (number_of : ℕ → ℕ) (done : Done) (dones : List Done) → among (numbers_in dones) done.number ≡ false
    → IsOut s number_of done → All (IsOut s number_of) dones → All (IsOut (brought_home done.inodes s) number_of) dones
others_out s number_of done dones single here out = λ k d lt.
    other_out s number_of done (get_or dones k d) here (out k d lt)
    (λ e. true≢false (sym (ap (among (numbers_in dones)) e ∙ among_map (λ (other : Done). other.number) dones k d lt) ∙ single))

are_all_lent : (dones : List Done) (s : Slots) (number_of : ℕ → ℕ) → AreDistinct (numbers_in dones) → All (IsOut s number_of) dones → AreAllLent s dones
are_all_lent [] s number_of distinct out = tt
are_all_lent (done ∷ dones) s number_of distinct out =
    let here : IsOut s number_of done = All-head (IsOut s number_of) done dones out in (
      are_lent done.inodes s here.distinct here.lent_out,
      are_all_lent dones (brought_home done.inodes s) number_of distinct.1 (others_out s number_of done dones distinct.0 here (All-tail (IsOut s number_of) done dones out)),
    )

-- The merge ----------------------------------------------------------------------------------------------------------------

module _ (ks : List ℕ) (dones order : List Done) (up : IsStrictlyIncreasing ks) (sorted : IsNonDecreasingBy (λ (done : Done). done.number) order) (each : IsPermutation dones order) (fine : refusal ks order ≡ None) where
  all_out : (s : Slots) → (refusal ks dones ≡ None → AreOut s dones) → AreOut s order
  all_out s out = let given = out (sym (refusal_moved ks dones order each) ∙ fine) in (given.0, All-permutation (IsOut s given.0) dones order each given.1)

  pub can_come_home : (s : Slots) → (refusal ks dones ≡ None → AreOut s dones) → AreAllLent s order
  can_come_home s out =
      let given = all_out s out in
      are_all_lent order s given.0 (subst AreDistinct (sym (numbers_are ks order up sorted fine)) (differ ks (rises ks up))) given.1

  pub are_merged : (s t : Slots) (replies : List NumberedReply) → (refusal ks dones ≡ None → AreOut s dones) → t ≡ all_home order s → replies ≡ map reply_in order → IsMerged s t ks dones replies
  are_merged s t replies out moved given = record {
    order = order;
    each = each;
    numbers_are = numbers_are ks order up sorted fine;
    home = let all = all_out s out in ap at_home moved ∙ home_of_all order s all.0 s all.1;
    still_out = λ id. ap (λ slots. get (lent slots) id) moved ∙ get-lent_all order s id;
    replies_are = given;
  }

-- one result
pub one_is_lent : (done : Done) (s : Slots) → AreOut s (done ∷ []) → AreLent s done.inodes
one_is_lent done s out = (are_all_lent (done ∷ []) s out.0 (refl, tt) out.1).0

pub one_is_merged : (done : Done) (s t : Slots) → AreOut s (done ∷ []) → t ≡ brought_home done.inodes s → IsMerged s t (done.number ∷ []) (done ∷ []) (reply_in done ∷ [])
one_is_merged done s t out moved = record {
  order = done ∷ [];
  each = IsPermutation-refl (done ∷ []);
  numbers_are = refl;
  home = ap at_home moved ∙ home_of_all (done ∷ []) s out.0 s out.1;
  still_out = λ id. ap (λ slots. get (lent slots) id) moved ∙ get-lent_all (done ∷ []) s id;
  replies_are = refl;
}

-- memory runs out only where nothing is refused
pub out_of_memory : {A : Type 0} (r : Result A MergeError) (refused : Option MergeError) → IsErrAnd r (λ e. e ≡ Memory) → refused ≡ None → IfErr r (λ e. (refused ≡ Some e) ⊎ ((e ≡ Memory) × (refused ≡ None)))
out_of_memory (Ok x) refused is fine = tt
out_of_memory (Err e) refused is fine = inr (is, fine)
