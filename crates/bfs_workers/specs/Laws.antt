-- The numbers of jobs.
use Rattle.std.specs.Prelude.{ℕ, List, map}
use Rattle.bfs_handover.specs.declared.job.Job.{Job}

abbrev pub numbers_of : List Job → List ℕ
numbers_of jobs = map (λ job. job.number) jobs
