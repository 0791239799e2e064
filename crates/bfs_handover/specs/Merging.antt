-- When results can be merged, and what comes of it.
use Rattle.std.specs.Prelude.{◌≡◌, ℕ, ⊤, not, ◌==◌, IsTrue, List, [], ◌∷◌, map, length, filter, nat_lt, Option, Some, None, All, if◌then◌else◌}
use Rattle.std.specs.List.{list_any}
use Rattle.std.specs.List.Sorted.{IsPermutation, IsStrictlyIncreasing}
use Rattle.std.specs.FinMap.{get, contains_key}
use Rattle.bfs_model.specs.Server.Tree.{Inodes}
use Rattle.bfs_model.specs.Server.Conflicts.{among}
use Rattle.bfs_tree.specs.Slots.{Slots}
use Rattle.bfs_tree.specs.Tree.{at_home, lent}
use Rattle.bfs_handover.specs.Loans.{ids_of, put_in}
use Rattle.bfs_handover.specs.Moves.{AreDistinct, AreLent, brought_home}
use Rattle.bfs_handover.specs.declared.job.Done.{Done}
use Rattle.bfs_handover.specs.declared.results.NumberedReply.{NumberedReply}
use Rattle.bfs_handover.specs.declared.results.MergeError.{MergeError}
use Rattle.bfs_handover.specs.declared.results.MergeError.TheVariants.{Stranger, Double, Missing}

abbrev pub numbers_in : List Done → List ℕ
numbers_in dones = map (λ done. done.number) dones

-- how many results have that number
abbrev pub results_of : List Done → (number : ℕ) → ℕ
results_of dones number = length (filter (λ done. done.number == number) dones)

-- the first refusal in order: a result of no job, two of one job, none of a job
abbrev pub refusal : (numbers : List ℕ) → List Done → Option MergeError
refusal numbers dones =
    if list_any (λ done. not (among numbers done.number)) dones then Some Stranger else (
    if list_any (λ number. nat_lt 1 (results_of dones number)) numbers then Some Double else (
    if list_any (λ number. results_of dones number == 0) numbers then Some Missing else None))

-- Nothing is refused where the results have just these numbers, each once
abbrev pub CompleteResultsAreTaken : Type 0
CompleteResultsAreTaken = (numbers : List ℕ) (dones : List Done) → IsStrictlyIncreasing numbers → IsPermutation numbers (numbers_in dones) → refusal numbers dones ≡ None

-- the fileids of a result differ, are lent out, and are those of its number
pub record IsOut (slots : Slots) (number_of : ℕ → ℕ) (done : Done) : Type 0 where
  pub distinct : AreDistinct (ids_of done.inodes)
  pub lent_out : (id : ℕ) → IsTrue (among (ids_of done.inodes) id) → IsTrue (contains_key (lent slots) id)
  pub owned : (id : ℕ) → IsTrue (among (ids_of done.inodes) id) → number_of id ≡ done.number

-- so no fileid is in two results of different numbers
abbrev pub AreOut : Slots → List Done → Type 0
AreOut slots dones = (number_of : ℕ → ℕ) × All (IsOut slots number_of) dones

-- each result's fileids are out, when those of the results before it are home
abbrev pub AreAllLent : Slots → List Done → Type 0
AreAllLent slots [] = ⊤
AreAllLent slots (done ∷ dones) = AreLent slots done.inodes × AreAllLent (brought_home done.inodes slots) dones

-- the tree when all results are home
abbrev pub all_home : List Done → Slots → Slots
all_home [] slots = slots
all_home (done ∷ dones) slots = all_home dones (brought_home done.inodes slots)

-- the inodes with those of all results put in, one result after another
abbrev pub all_in : List Done → Inodes → Inodes
all_in [] inodes = inodes
all_in (done ∷ dones) inodes = all_in dones (put_in done.inodes inodes)

abbrev pub reply_in : Done → NumberedReply
reply_in done = record { number = done.number; bytes = done.reply }

-- the results come home in the order of the numbers, and their replies are given in it
pub record IsMerged (old new : Slots) (numbers : List ℕ) (dones : List Done) (replies : List NumberedReply) : Type 0 where
  pub order : List Done
  pub each : IsPermutation dones order
  pub numbers_are : numbers_in order ≡ numbers
  pub home : at_home new ≡ all_in order (at_home old)
  pub still_out : (id : ℕ) → get (lent new) id ≡ (if list_any (λ (done : Done). among (ids_of done.inodes) id) order then None else get (lent old) id)
  pub replies_are : replies ≡ map reply_in order
