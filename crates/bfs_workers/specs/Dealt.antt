-- Jobs that are dealt into lists, one for each worker.
use Rattle.std.specs.Prelude.{List, flat_map}
use Rattle.std.specs.Global.{Global}
use Rattle.std.specs.declared.vec.Vec.{Vec}
use Rattle.bfs_handover.specs.declared.job.Job.{Job}

-- the jobs of all lists, list after list
abbrev pub jobs_in : List (Vec Job Global) → List Job
jobs_in lists = flat_map (λ list. list.items) lists
