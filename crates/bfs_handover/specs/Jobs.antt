-- What a job asks of the tree that it borrows, and what its result is.
use Rattle.std.specs.Prelude.{◌≡◌}
use Rattle.bfs_model.specs.Server.Serial.{answer}
use Rattle.bfs_model.specs.Server.Footprints.{footprint_of, IsFreshFor}
use Rattle.bfs_tree.specs.Reach.{Knows}
use Rattle.bfs_tree.specs.Slots.{Slots}
use Rattle.bfs_tree.specs.Tree.{at_home, lent}
use Rattle.bfs_handover.specs.Loans.{ids_of, put_in, reach_with}
use Rattle.bfs_handover.specs.declared.job.Job.{Job}
use Rattle.bfs_handover.specs.declared.job.Done.{Done}

-- the job was handed all that its call writes, what else the call reads is at home, and its ordinal is fresh
pub record CanRun (tree : Slots) (job : Job) : Type 0 where
  pub known : Knows (reach_with (lent tree) (at_home tree) (ids_of job.inodes)) (footprint_of (put_in job.inodes (at_home tree)) job.ordinal job.time job.request.now)
  pub fresh : IsFreshFor (put_in job.inodes (at_home tree)) job.ordinal (footprint_of (put_in job.inodes (at_home tree)) job.ordinal job.time job.request.now)

-- the job's number, its fileids, and the reply and the inodes that come of its request where its inodes are put in
pub record IsDone (tree : Slots) (job : Job) (done : Done) : Type 0 where
  pub number : done.number ≡ job.number
  pub ids : ids_of done.inodes ≡ ids_of job.inodes
  pub answers : (put_in done.inodes (at_home tree), done.reply.items) ≡ answer (put_in job.inodes (at_home tree)) job.ordinal job.time job.request.now
