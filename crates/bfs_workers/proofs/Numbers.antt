-- The numbers of results are those of their jobs.
use Rattle.std.proofs.Common.{◌≡◌, ◌∙◌, ℕ, List, [], ◌∷◌, refl, sym, ap, subst}
use Rattle.std.specs.Prelude.{IsPermutation}
use Rattle.std.specs.List.{AllZip}
use Rattle.std.proofs.lemmas.List.Sorted.{IsPermutation-map}
use Rattle.bfs_tree.specs.Slots.{Slots}
use Rattle.bfs_handover.specs.declared.job.Job.{Job}
use Rattle.bfs_handover.specs.declared.job.Done.{Done}
use Rattle.bfs_handover.specs.Merging.{numbers_in}
use Rattle.bfs_workers.specs.Laws.{numbers_of}
use Rattle.bfs_workers.specs.Results.{EachOnce, Gives}

numbers_given : (ran : ℕ → List ℕ → Type 0) (tree : Slots) (jobs : List Job) (dones : List Done) → AllZip (Gives ran tree) jobs dones → numbers_of jobs ≡ numbers_in dones
numbers_given ran tree [] [] given = refl
numbers_given ran tree [] (done ∷ dones) given = absurd given
numbers_given ran tree (job ∷ jobs) [] given = absurd given
numbers_given ran tree (job ∷ jobs) (done ∷ dones) given = ap (λ n. n ∷ numbers_of jobs) (sym given.0.result.number) ∙ ap (λ ns. done.number ∷ ns) (numbers_given ran tree jobs dones given.1)

pub each_number_once : (ran : ℕ → List ℕ → Type 0) (tree : Slots) (jobs : List Job) (dones : List Done) → EachOnce ran tree jobs dones → IsPermutation (numbers_of jobs) (numbers_in dones)
each_number_once ran tree jobs dones once =
    subst (IsPermutation (numbers_of jobs)) (numbers_given ran tree once.order dones once.given) (IsPermutation-map (λ (job : Job). job.number) jobs once.order once.permuted)
