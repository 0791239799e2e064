-- Jobs that were put in the queue, or came back.
use Rattle.std.proofs.Common.{◌≡◌, List, [], ◌∷◌, ◌++◌, ℕ, sym, append_assoc}
use Rattle.std.specs.Prelude.{IsPermutation}
use Rattle.std.specs.List.{All, AllZip}
use Rattle.std.proofs.lemmas.List.Elements.{All-from_recursion, recursion_from_All}
use Rattle.std.proofs.lemmas.List.Sorted.{All-permutation, IsPermutation-append_comm, IsPermutation-append_left, IsPermutation-append_right, IsPermutation-trans}
use Rattle.bfs_tree.specs.Slots.{Slots}
use Rattle.bfs_handover.specs.Jobs.{CanRun}
use Rattle.bfs_handover.specs.declared.job.Job.{Job}
use Rattle.bfs_handover.specs.declared.job.Done.{Done}
use Rattle.bfs_workers.specs.Results.{CanRunAll, EachOnce, Gives, GivesAll}
use Rattle.bfs_workers.proofs.Dealing.{both_parts}
use Rattle.bfs_workers.proofs.Zips.{all_zip_append}

pub came_back : (jobs put back : List Job) (job : Job) → IsPermutation jobs (put ++ back) → IsPermutation (jobs ++ job ∷ []) (put ++ (back ++ job ∷ []))
came_back jobs put back job before = rw (sym (append_assoc put back (job ∷ []))) (IsPermutation-append_left (job ∷ []) jobs (put ++ back) before)

pub was_put : (jobs put back : List Job) (job : Job) → IsPermutation jobs (put ++ back) → IsPermutation (jobs ++ job ∷ []) ((put ++ job ∷ []) ++ back)
was_put jobs put back job before =
    rw (append_assoc put (job ∷ []) back)
    (IsPermutation-trans _ _ _ (came_back jobs put back job before) (IsPermutation-append_right put (back ++ job ∷ []) (job ∷ back) (IsPermutation-append_comm back (job ∷ []))))

both_can_run : (tree : Slots) (jobs put back : List Job) → IsPermutation jobs (put ++ back) → All (CanRun tree) jobs → CanRunAll tree put × All (CanRun tree) back
both_can_run tree jobs put back dealt can_run =
    let both = both_parts (CanRun tree) put back (recursion_from_All (CanRun tree) _ (All-permutation (CanRun tree) jobs (put ++ back) dealt can_run)) in
    (record { each = All-from_recursion (CanRun tree) put both.0 }, All-from_recursion (CanRun tree) back both.1)

pub put_can_run : (tree : Slots) (jobs put back : List Job) → IsPermutation jobs (put ++ back) → All (CanRun tree) jobs → CanRunAll tree put
put_can_run tree jobs put back dealt can_run = (both_can_run tree jobs put back dealt can_run).0

pub back_can_run : (tree : Slots) (jobs put back : List Job) → IsPermutation jobs (put ++ back) → All (CanRun tree) jobs → All (CanRun tree) back
back_can_run tree jobs put back dealt can_run = (both_can_run tree jobs put back dealt can_run).1

-- what was put was taken, and the results are of that and of what came back
pub all_drawn : (ran : ℕ → List ℕ → Type 0) (tree : Slots) (jobs back put taken : List Job) (dones more : List Done) → IsPermutation jobs (put ++ back) → IsPermutation put taken
    → GivesAll ran tree taken dones → AllZip (Gives ran tree) back more → EachOnce ran tree jobs (dones ++ more)
all_drawn ran tree jobs back put taken dones more dealt drawn given given_back = record {
  order = taken ++ back;
  permuted = IsPermutation-trans _ _ _ dealt (IsPermutation-append_left back put taken drawn);
  given = all_zip_append (Gives ran tree) taken back dones more given.each given_back;
}
