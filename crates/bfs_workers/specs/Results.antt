-- What comes of jobs.
use Rattle.std.specs.Prelude.{ℕ, List, IsPermutation}
use Rattle.std.specs.List.{All, AllZip}
use Rattle.bfs_tree.specs.Slots.{Slots}
use Rattle.bfs_handover.specs.Jobs.{CanRun, IsDone}
use Rattle.bfs_handover.specs.declared.job.Job.{Job}
use Rattle.bfs_handover.specs.declared.job.Done.{Done}

-- the result is that of the job, and a gate has made it
pub record Gives (ran : ℕ → List ℕ → Type 0) (tree : Slots) (job : Job) (done : Done) : Type 0 where
  pub result : IsDone tree job done
  pub gated : ran done.number done.reply.items

-- the results are those of the jobs, each once, in some order of the jobs
pub record EachOnce (ran : ℕ → List ℕ → Type 0) (tree : Slots) (jobs : List Job) (dones : List Done) : Type 0 where
  pub order : List Job
  pub permuted : IsPermutation jobs order
  pub given : AllZip (Gives ran tree) order dones

pub record CanRunAll (tree : Slots) (jobs : List Job) : Type 0 where
  pub each : All (CanRun tree) jobs

-- the results are those of the jobs, in their order
pub record GivesAll (ran : ℕ → List ℕ → Type 0) (tree : Slots) (jobs : List Job) (dones : List Done) : Type 0 where
  pub each : AllZip (Gives ran tree) jobs dones
