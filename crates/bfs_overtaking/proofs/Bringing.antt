-- One job's result comes home.
use Rattle.std.proofs.Common.{◌≡◌, ℕ, zero, suc, Bool, true, false, cond, ◌||◌, List, [], ◌∷◌, length, map, get_or, Option, None, is_some, refl, ap, sym, subst, ◌∙◌, arith}
use Rattle.std.specs.List.{Contains, list_any}
use Rattle.std.specs.FinMap.{get}
use Rattle.std.proofs.lemmas.List.Elements.{All-cons, All-nil}
use Rattle.std.proofs.lemmas.List.Sorted.{Contains-permutation, length_permutation}
use Rattle.bfs_model.specs.Server.Conflicts.{among}
use Rattle.bfs_tree.specs.Slots.{Slots}
use Rattle.bfs_tree.specs.Tree.{at_home, lent}
use Rattle.bfs_handover.specs.Jobs.{IsDone}
use Rattle.bfs_handover.specs.Loans.{ids_of, put_in}
use Rattle.bfs_handover.specs.Merging.{AreOut, IsOut, IsMerged, all_in, reply_in}
use Rattle.bfs_handover.specs.Moves.{AreDistinct}
use Rattle.bfs_handover.specs.declared.job.Job.{Job}
use Rattle.bfs_handover.specs.declared.job.Done.{Done}
use Rattle.bfs_handover.specs.declared.results.NumberedReply.{NumberedReply}
use Rattle.bfs_overtaking.specs.Inside.Lent.{IsOutFor, IsCarriedOut}

single : {X : Type 0} (xs : List X) (x : X) → length xs ≡ 1 → Contains xs x → xs ≡ x ∷ []
single [] x one found = absurd (omega arith)
single (y ∷ []) x one found = ap (λ z. z ∷ []) (there found.0 (omega (arith, found.1)) found.2)
  where
    there : (k : ℕ) → k ≡ 0 → get_or (y ∷ []) k x ≡ x → y ≡ x
    there zero at is = is
    there (suc k) at is = absurd (omega arith)
single (y ∷ z ∷ xs) x one found = absurd (omega arith)

module _ (tree : Slots) (job : Job) (done : Done) (run : IsDone tree job done) where
  pub one_out : IsOutFor tree job → AreOut tree (done ∷ [])
  one_out out = (
    (λ id. job.number),
    All-cons (IsOut tree (λ id. job.number)) done []
        (record {
          distinct = subst AreDistinct (sym run.ids) out.distinct;
          lent_out = λ id is. out.lent_out id (ap (λ ids. among ids id) (sym run.ids) ∙ is);
          owned = λ id is. sym run.number;
        })
        (All-nil (IsOut tree (λ id. job.number))),
  )

  pub one_home : (new : Slots) (numbers : List ℕ) (reply : NumberedReply) → IsMerged tree new numbers (done ∷ []) (reply ∷ []) → IsCarriedOut tree new job reply.bytes.items
  one_home new numbers reply merged =
      let found : Contains merged.order done = Contains-permutation (done ∷ []) merged.order done merged.each (0, omega arith, refl) in
      let order : merged.order ≡ done ∷ [] = single merged.order done (length_permutation (done ∷ []) merged.order merged.each) found in
      let given : reply ≡ reply_in done = ap (λ replies. get_or replies 0 reply) (merged.replies_are ∙ ap (map reply_in) order) in
      let home : at_home new ≡ put_in done.inodes (at_home tree) = merged.home ∙ ap (λ dones. all_in dones (at_home tree)) order in record {
        answers = (λ i. (home i, (given i).bytes.items)) ∙ run.answers;
        still_out = λ id.
            ap is_some (merged.still_out id ∙ ap (λ dones. cond (list_any (λ (other : Done). among (ids_of other.inodes) id) dones) None (get (lent tree) id)) order)
            ∙ by_test (among (ids_of done.inodes) id) (get (lent tree) id)
            ∙ ap (λ ids. cond (among ids id) false (is_some (get (lent tree) id))) run.ids;
      }
    where
      by_test : {X : Type 0} (b : Bool) (o : Option X) → is_some (cond (b || false) None o) ≡ cond b false (is_some o)
      by_test true o = refl
      by_test false o = refl
