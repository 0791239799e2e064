-- The rule of a queue of jobs: what was put was taken by some pass or is in the queue, each job once.
use Rattle.std.specs.Prelude.{◌≡◌, ◌<◌, ◌+◌, ℕ, List, [], ◌∷◌, ◌++◌, length, IsPermutation}
use Rattle.std.specs.List.{AllByRecursion, Contains}
use Rattle.bfs_handover.specs.declared.job.Job.{Job}
use Rattle.bfs_workers.specs.Workers.{most_workers}
use Rattle.bfs_workers.specs.declared.rule.Account.{Account}

abbrev pub account : ℕ → List Job → List Job → Account
account parts put taken = record { parts = parts; put = put; taken = taken }

-- one for each worker, and one for the calling thread
abbrev pub all_parts : ℕ
all_parts = most_workers + 1

abbrev pub parts_of : List Account → ℕ
parts_of [] = 0
parts_of (pass ∷ passes) = pass.parts + parts_of passes

abbrev pub taken_by : List Account → List Job
taken_by [] = []
taken_by (pass ∷ passes) = pass.taken ++ taken_by passes

-- a pass with a part knows which jobs were put, and one with none has taken nothing
pub record Fits (put : List Job) (pass : Account) : Type 0 where
  pub knows : 0 < pass.parts → pass.put ≡ put
  pub idle : pass.parts ≡ 0 → pass.taken ≡ []

pub record Balanced (items : List Job) (passes : List Account) : Type 0 where
  pub put : List Job
  pub parts : parts_of passes ≡ all_parts
  pub fits : AllByRecursion (Fits put) passes
  pub each_once : IsPermutation put (taken_by passes ++ items)

-- one job more was put
abbrev pub PutOne : Account → Job → Account → Type 0
PutOne before job after = after ≡ account before.parts (before.put ++ job ∷ []) before.taken

-- a job that was put was taken, and there was one left to take
pub record TookOne (before : Account) (job : Job) (after : Account) : Type 0 where
  pub taken : after ≡ account before.parts before.put (before.taken ++ job ∷ [])
  pub was_put : Contains before.put job
  pub left : length before.taken < length before.put

-- with all parts it is known that what was put was taken or is in the queue
abbrev pub KnowsAll : Account → List Job → Type 0
KnowsAll pass items = pass.parts ≡ all_parts → IsPermutation pass.put (pass.taken ++ items)
