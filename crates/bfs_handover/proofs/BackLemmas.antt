-- What was taken out of a tree comes back to it.
use Rattle.std.proofs.Common.{◌≡◌, ℕ, is_some, true≢false, Bool, true, false, cond, List, [], ◌∷◌, ◌++◌, Option, Some, None, refl, ap, sym, ◌∙◌, subst}
use Rattle.std.specs.Prelude.{◌||◌, ⊤}
use Rattle.std.specs.FinMap.{get, same_map, nat_cmp-IsAntisymmetric}
use Rattle.std.proofs.lemmas.Bool.{not-true}
use Rattle.std.proofs.lemmas.Cmp.{nat_cmp_total}
use Rattle.bfs_model.specs.Server.Conflicts.{among}
use Rattle.bfs_tree.specs.Slots.{Slots}
use Rattle.bfs_tree.specs.Tree.{at_home, brought, lent}
use Rattle.bfs_handover.specs.Loans.{ids_of, put_in}
use Rattle.bfs_handover.specs.Moves.{AreAtHome, AreDistinct, AreLent, brought_home, lent_out, taken}
use Rattle.bfs_handover.specs.declared.loans.Loan.{Loan}
use Rattle.bfs_handover.proofs.MergeLemmas.{are_lent, get-lent_home, home_is}
use Rattle.bfs_handover.proofs.MoveLemmas.{distinct_at_home, ids_taken, is_out, nothing_lost, owned_at_home}

out_is_none : (o p : Option ⊤) → is_some o ≡ is_some p → o ≡ p
out_is_none None None e = refl
out_is_none None (Some y) e = absurd (true≢false (sym e))
out_is_none (Some x) None e = absurd (true≢false e)
out_is_none (Some x) (Some y) e = refl

-- what was taken comes back to a tree that has lent out just that
module _ (ids : List ℕ) (s t : Slots) (home : AreAtHome s ids) (same_home : at_home t ≡ at_home (lent_out ids s)) (same_lent : lent t ≡ lent (lent_out ids s)) where
  distinct : AreDistinct (ids_of (taken ids s))
  distinct = subst AreDistinct (sym (ids_taken ids s)) (distinct_at_home ids s home)

  pub comes_back : AreLent t (taken ids s)
  comes_back = are_lent (taken ids s) t distinct (λ q is.
      ap (λ l. is_some (get l q)) same_lent ∙ is_out ids s q ∙ ap (λ b. b || is_some (get (lent s) q)) (sym (ap (λ xs. among xs q) (ids_taken ids s)) ∙ is))

  pub home_again : at_home (brought_home (taken ids s) t) ≡ at_home s
  home_again = home_is (taken ids s) t distinct ∙ ap (put_in (taken ids s)) same_home ∙ nothing_lost ids s

  pub lent_again : lent (brought_home (taken ids s) t) ≡ lent s
  lent_again = same_map nat_cmp_total nat_cmp-IsAntisymmetric _ _ (λ q.
      get-lent_home (taken ids s) t q
      ∙ ap (λ xs. cond (among xs q) None (get (lent t) q)) (ids_taken ids s)
      ∙ ap (λ l. cond (among ids q) None (get l q)) same_lent
      ∙ by_test q (among ids q) refl)
    where
      by_test : (q : ℕ) (b : Bool) → among ids q ≡ b → cond b None (get (lent (lent_out ids s)) q) ≡ get (lent s) q
      by_test q true e = out_is_none None (get (lent s) q) (sym (not-true (is_some (get (lent s) q)) (owned_at_home ids s home q e)))
      by_test q false e = out_is_none (get (lent (lent_out ids s)) q) (get (lent s) q) (is_out ids s q ∙ ap (λ b. b || is_some (get (lent s) q)) e)

pub lent_both : (xs ys : List Loan) (s : Slots) → AreLent s (xs ++ ys) → AreLent s xs × AreLent (brought_home xs s) ys
lent_both [] ys s all = (tt, all)
lent_both (x ∷ xs) ys s all = let rest = lent_both xs ys (brought s x.id x.inode) all.1 in ((all.0, rest.0), rest.1)

pub home_both : (xs ys : List Loan) (s : Slots) → brought_home (xs ++ ys) s ≡ brought_home ys (brought_home xs s)
home_both [] ys s = refl
home_both (x ∷ xs) ys s = home_both xs ys (brought s x.id x.inode)
