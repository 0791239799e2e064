-- Inodes that are lent out for a call, and what comes of the call.
use Rattle.std.specs.Prelude.{◌≡◌, ℕ, ◌||◌, IsTrue, false, List, is_some, if◌then◌else◌}
use Rattle.std.specs.FinMap.{get, contains_key}
use Rattle.bfs_model.specs.Server.Serial.{answer}
use Rattle.bfs_model.specs.Server.Conflicts.{among}
use Rattle.bfs_model.specs.Server.Shares.{without}
use Rattle.bfs_tree.specs.Slots.{Slots}
use Rattle.bfs_tree.specs.Tree.{at_home, lent}
use Rattle.bfs_handover.specs.Loans.{ids_of, loaned, put_in}
use Rattle.bfs_handover.specs.Moves.{AreDistinct}
use Rattle.bfs_handover.specs.declared.loans.Loan.{Loan}
use Rattle.bfs_handover.specs.declared.job.Job.{Job}

-- the loans are what was at home at these fileids, which are lent out besides what was before
pub record AreLentOut (old new : Slots) (ids : List ℕ) (loans : List Loan) : Type 0 where
  pub home : at_home new ≡ without ids (at_home old)
  pub out : (id : ℕ) → is_some (get (lent new) id) ≡ (among ids id || is_some (get (lent old) id))
  pub same : (id : ℕ) → among (ids_of loans) id ≡ among ids id
  pub distinct : AreDistinct (ids_of loans)
  pub values : (id : ℕ) → IsTrue (among ids id) → loaned loans id ≡ get (at_home old) id

-- the job's fileids differ, and are lent out
pub record IsOutFor (slots : Slots) (job : Job) : Type 0 where
  pub distinct : AreDistinct (ids_of job.inodes)
  pub lent_out : (id : ℕ) → IsTrue (among (ids_of job.inodes) id) → IsTrue (contains_key (lent slots) id)

-- the job's request has been carried out on the inodes at home with the job's own put in, which are home again
pub record IsCarriedOut (old new : Slots) (job : Job) (reply : List ℕ) : Type 0 where
  pub answers : (at_home new, reply) ≡ answer (put_in job.inodes (at_home old)) job.ordinal job.time job.request.now
  pub still_out : (id : ℕ) → is_some (get (lent new) id) ≡ (if among (ids_of job.inodes) id then false else is_some (get (lent old) id))
