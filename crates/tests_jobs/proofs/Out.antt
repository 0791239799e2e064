-- Results that may be merged, and fewer or more of them.
use Rattle.std.proofs.Common.{◌≡◌, ℕ, true≢false, List, [], ◌∷◌, ◌++◌, ap, sym, subst, ◌∙◌}
use Rattle.std.specs.Prelude.{All}
use Rattle.std.specs.List.{AllByRecursion, AllZip}
use Rattle.std.proofs.lemmas.List.Elements.{All-append, All-from_recursion, recursion_from_All}
use Rattle.std.proofs.lemmas.List.Sorted.{All-permutation, IsPermutation-refl}
use Rattle.std.specs.List.Sorted.{IsPermutation}
use Rattle.bfs_model.specs.Server.Conflicts.{among}
use Rattle.bfs_tree.specs.Slots.{Slots}
use Rattle.bfs_handover.specs.Jobs.{IsDone}
use Rattle.bfs_handover.specs.Loans.{ids_of}
use Rattle.bfs_handover.specs.Moves.{AreDistinct}
use Rattle.bfs_handover.specs.Merging.{AreOut, IsOut}
use Rattle.bfs_handover.specs.declared.job.Job.{Job}
use Rattle.bfs_handover.specs.declared.job.Done.{Done}
use Rattle.bfs_handover.proofs.Public.{results_are_out}
use Rattle.bfs_workers.specs.Results.{EachOnce, Gives}
use Rattle.tests_jobs.specs.Split.{AreSplit}

none_is_out : (tree : Slots) (number_of : ℕ → ℕ) (done : Done) → done.inodes ≡ [] → IsOut tree number_of done
none_is_out tree number_of done none = record {
  distinct = subst (λ loans. AreDistinct (ids_of loans)) (sym none) tt;
  lent_out = λ id is. absurd (true≢false (sym is ∙ ap (λ loans. among (ids_of loans) id) none));
  owned = λ id is. absurd (true≢false (sym is ∙ ap (λ loans. among (ids_of loans) id) none));
}

-- a result that has brought nothing may be put to the others
pub out_with_none : (tree : Slots) (dones : List Done) (done : Done) → done.inodes ≡ [] → AreOut tree dones → AreOut tree (dones ++ done ∷ [])
out_with_none tree dones done none out =
    (out.0, All-append (IsOut tree out.0) dones (done ∷ []) out.1 (All-from_recursion (IsOut tree out.0) (done ∷ []) (none_is_out tree out.0 done none, tt)))

first_part : {X : Type 0} (P : X → Type 0) (xs ys : List X) → AllByRecursion P (xs ++ ys) → AllByRecursion P xs
first_part P [] ys all = tt
first_part P (x ∷ xs) ys all = (all.0, first_part P xs ys all.1)

-- and one may be taken from them
pub out_without_last : (tree : Slots) (all dones : List Done) (done : Done) → all ≡ dones ++ done ∷ [] → AreOut tree all → AreOut tree dones
out_without_last tree all dones done is out =
    (out.0, All-from_recursion (IsOut tree out.0) dones (first_part (IsOut tree out.0) dones (done ∷ []) (recursion_from_All (IsOut tree out.0) (dones ++ done ∷ []) (subst (All (IsOut tree out.0)) is out.1))))

-- and they may be turned round
pub out_permuted : (tree : Slots) (dones turned : List Done) → IsPermutation dones turned → AreOut tree dones → AreOut tree turned
out_permuted tree dones turned permuted out = (out.0, All-permutation (IsOut tree out.0) dones turned permuted out.1)

all_done : (ran : ℕ → List ℕ → Type 0) (tree : Slots) (jobs : List Job) (dones : List Done) → AllZip (Gives ran tree) jobs dones → AllZip (IsDone tree) jobs dones
all_done ran tree [] [] all = tt
all_done ran tree [] (done ∷ dones) all = absurd all
all_done ran tree (job ∷ jobs) [] all = absurd all
all_done ran tree (job ∷ jobs) (done ∷ dones) all = (all.0.result, all_done ran tree jobs dones all.1)

-- those of jobs that were split off, run once each
pub results_out : (ran : ℕ → List ℕ → Type 0) (old new : Slots) (numbers : List ℕ) (jobs : List Job) (dones : List Done) → AreSplit old new numbers jobs → EachOnce ran new jobs dones → AreOut new dones
results_out ran old new numbers jobs dones are once =
    results_are_out old new are.part numbers jobs once.order dones are.apart are.split once.permuted (all_done ran new once.order dones once.given)

-- in their order
pub in_order : (ran : ℕ → List ℕ → Type 0) (tree : Slots) (jobs : List Job) (dones : List Done) → AllZip (Gives ran tree) jobs dones → EachOnce ran tree jobs dones
in_order ran tree jobs dones given = record { order = jobs; permuted = IsPermutation-refl jobs; given = given }
