-- The jobs of the lists when one job more is dealt, and when one list is taken out.
use Rattle.std.proofs.Common.{◌≡◌, ◌∙◌, ℕ, zero, suc, ◌<◌, List, [], ◌∷◌, ◌++◌, length, ap, subst, append_assoc, append-nil, arith, slice_index_or, slice_set}
use Rattle.std.specs.Prelude.{IsPermutation}
use Rattle.std.specs.Global.{Global}
use Rattle.std.specs.List.{All, AllByRecursion}
use Rattle.std.specs.declared.vec.Vec.{Vec}
use Rattle.std.proofs.lemmas.List.Concat.{flat_map-append}
use Rattle.std.proofs.lemmas.List.Elements.{All-from_recursion, recursion_from_All}
use Rattle.std.proofs.lemmas.List.Sorted.{All-permutation, IsPermutation-append_comm, IsPermutation-append_left, IsPermutation-append_right, IsPermutation-trans}
use Rattle.bfs_tree.specs.Slots.{Slots}
use Rattle.bfs_handover.specs.Jobs.{CanRun}
use Rattle.bfs_handover.specs.declared.job.Job.{Job}
use Rattle.bfs_workers.specs.Dealt.{jobs_in}
use Rattle.bfs_workers.specs.Results.{CanRunAll}

-- One job more ---------------------------------------------------------------------------------------------------------

dealt_with : (lists : List (Vec Job Global)) (turn : ℕ) (list more : Vec Job Global) (job : Job) → turn < length lists → list ≡ slice_index_or lists turn list → more.items ≡ list.items ++ job ∷ []
    → IsPermutation (jobs_in lists ++ job ∷ []) (jobs_in (slice_set lists turn more))
dealt_with [] turn list more job within here is = absurd (omega arith)
dealt_with (first ∷ lists) zero list more job within here is =
    let rest = jobs_in lists in
    let at_end : IsPermutation ((first.items ++ rest) ++ job ∷ []) (first.items ++ (job ∷ rest)) = rw (append_assoc first.items rest (job ∷ [])) (IsPermutation-append_right first.items (rest ++ job ∷ []) (job ∷ rest) (IsPermutation-append_comm rest (job ∷ []))) in
    rw (is, here, append_assoc first.items (job ∷ []) rest) at_end
dealt_with (first ∷ lists) (suc turn) list more job within here is =
    rw (append_assoc first.items (jobs_in lists) (job ∷ [])) (IsPermutation-append_right first.items _ _ (dealt_with lists turn list more job (omega arith) here is))

-- the jobs with one more are those of the lists with it
pub dealt : (jobs : List Job) (lists : List (Vec Job Global)) (turn : ℕ) (list more : Vec Job Global) (job : Job) → IsPermutation jobs (jobs_in lists) → turn < length lists → list ≡ slice_index_or lists turn list
    → more.items ≡ list.items ++ job ∷ [] → IsPermutation (jobs ++ job ∷ []) (jobs_in (slice_set lists turn more))
dealt jobs lists turn list more job before within here is = IsPermutation-trans _ _ _ (IsPermutation-append_left (job ∷ []) jobs (jobs_in lists) before) (dealt_with lists turn list more job within here is)

pub all_dealt : (tree : Slots) (jobs : List Job) (lists : List (Vec Job Global)) → IsPermutation jobs (jobs_in lists) → All (CanRun tree) jobs → CanRunAll tree (jobs_in lists)
all_dealt tree jobs lists dealt can_run = record { each = All-permutation (CanRun tree) jobs (jobs_in lists) dealt can_run }

-- One list less --------------------------------------------------------------------------------------------------------

pub both_parts : {A : Type 0} (P : A → Type 0) (xs ys : List A) → AllByRecursion P (xs ++ ys) → AllByRecursion P xs × AllByRecursion P ys
both_parts P [] ys all = (tt, all)
both_parts P (x ∷ xs) ys all = let rest = both_parts P xs ys all.1 in ((all.0, rest.0), rest.1)

jobs_popped : (lists others : List (Vec Job Global)) (last : Vec Job Global) → lists ≡ others ++ last ∷ [] → jobs_in lists ≡ jobs_in others ++ last.items
jobs_popped lists others last is = ap jobs_in is ∙ flat_map-append (λ (list : Vec Job Global). list.items) others (last ∷ []) ∙ ap (λ jobs. jobs_in others ++ jobs) (append-nil last.items)

popped_can_run : (tree : Slots) (lists others : List (Vec Job Global)) (last : Vec Job Global) → lists ≡ others ++ last ∷ [] → CanRunAll tree (jobs_in lists)
    → AllByRecursion (CanRun tree) (jobs_in others) × AllByRecursion (CanRun tree) last.items
popped_can_run tree lists others last is can_run =
    both_parts (CanRun tree) (jobs_in others) last.items (recursion_from_All (CanRun tree) _ (subst (All (CanRun tree)) (jobs_popped lists others last is) can_run.each))

pub others_can_run : (tree : Slots) (lists others : List (Vec Job Global)) (last : Vec Job Global) → lists ≡ others ++ last ∷ [] → CanRunAll tree (jobs_in lists) → CanRunAll tree (jobs_in others)
others_can_run tree lists others last is can_run = record { each = All-from_recursion (CanRun tree) (jobs_in others) (popped_can_run tree lists others last is can_run).0 }

pub last_can_run : (tree : Slots) (lists others : List (Vec Job Global)) (last : Vec Job Global) → lists ≡ others ++ last ∷ [] → CanRunAll tree (jobs_in lists) → CanRunAll tree last.items
last_can_run tree lists others last is can_run = record { each = All-from_recursion (CanRun tree) last.items (popped_can_run tree lists others last is can_run).1 }
