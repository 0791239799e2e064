-- What is taken out of a tree for the requests of a batch, one after another.
use Rattle.std.specs.Prelude.{◌≡◌, ℕ, ◌+◌, ◌<◌, ◌≤◌, ⊤, List, [], ◌∷◌, ◌++◌, length}
use Rattle.bfs_model.specs.Server.Conflicts.{among}
use Rattle.bfs_model.specs.Server.Shares.{moved_for}
use Rattle.bfs_tree.specs.Slots.{Slots}
use Rattle.bfs_handover.specs.Loans.{ids_of}
use Rattle.bfs_handover.specs.Moves.{AreDistinct, lent_out, taken}
use Rattle.bfs_handover.specs.Splitting.{PlannedPart, request_of, ordinal_of, footprint_for}
use Rattle.bfs_handover.specs.declared.job.Job.{Job}
use Rattle.bfs_handover.specs.declared.loans.Loan.{Loan}

-- a number of these requests, and of those of the batch
pub record IsWithin (requests : ℕ) (part : PlannedPart) (number : ℕ) : Type 0 where
  pub from : part.first ≤ number
  pub within : number < part.first + length part.footprints
  pub requested : number < requests

-- the same fileids, each once
pub record AreOnce (once ids : List ℕ) : Type 0 where
  pub same : (id : ℕ) → among once id ≡ among ids id
  pub distinct : AreDistinct once

-- the job of a number: what is asked for, and what the tree has at just the fileids that its call writes
pub record IsTaken (part : PlannedPart) (number : ℕ) (slots : Slots) (job : Job) : Type 0 where
  pub number_is : job.number ≡ number
  pub request : job.request.now ≡ request_of part number
  pub ordinal : job.ordinal ≡ ordinal_of part number
  pub time : job.time ≡ part.time
  pub ids : AreOnce (ids_of job.inodes) (moved_for (footprint_for part number))
  pub inodes : job.inodes ≡ taken (ids_of job.inodes) slots

-- the jobs of these numbers, each taken when those before it are out
abbrev pub AreJobs : PlannedPart → List ℕ → List Job → Slots → Type 0
AreJobs part [] [] slots = ⊤
AreJobs part [] (job ∷ jobs) slots = ⊥
AreJobs part (number ∷ numbers) [] slots = ⊥
AreJobs part (number ∷ numbers) (job ∷ jobs) slots = IsTaken part number slots job × AreJobs part numbers jobs (lent_out (ids_of job.inodes) slots)

abbrev pub all_ids : List Job → List ℕ
all_ids [] = []
all_ids (job ∷ jobs) = ids_of job.inodes ++ all_ids jobs

abbrev pub all_loans : List Job → List Loan
all_loans [] = []
all_loans (job ∷ jobs) = job.inodes ++ all_loans jobs
