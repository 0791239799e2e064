-- A job whose request touches no inode can be run on any tree.
use Rattle.std.proofs.Common.{◌≡◌, ◌∙◌, ℕ, [], sym, ap, subst, inr}
use Rattle.bfs_model.specs.Server.Footprints.{Footprint, IsFreshFor, footprint_of, known}
use Rattle.bfs_model.specs.Server.Tree.{Inodes}
use Rattle.bfs_tree.specs.Reach.{Knows, Reach}
use Rattle.bfs_tree.specs.Slots.{Slots}
use Rattle.bfs_tree.specs.Tree.{at_home, lent}
use Rattle.bfs_handover.specs.Jobs.{CanRun}
use Rattle.bfs_handover.specs.Loans.{ids_of, put_in, reach_with}
use Rattle.bfs_handover.specs.declared.job.Job.{Job}

knows : (reach : Reach) (footprint : Footprint) → footprint ≡ known [] [] → Knows reach footprint
knows reach footprint none = subst (Knows reach) (sym none) (tt, tt)

is_fresh : (inodes : Inodes) (ordinal : ℕ) (footprint : Footprint) → footprint ≡ known [] [] → IsFreshFor inodes ordinal footprint
is_fresh inodes ordinal footprint none = subst (IsFreshFor inodes ordinal) (sym none) (inr tt)

pub can_run : (tree : Slots) (job : Job) → job.inodes ≡ [] → footprint_of (at_home tree) job.ordinal job.time job.request.now ≡ known [] [] → CanRun tree job
can_run tree job alone none =
    let touched = ap (λ loans. footprint_of (put_in loans (at_home tree)) job.ordinal job.time job.request.now) alone ∙ none in
    record { known = knows (reach_with (lent tree) (at_home tree) (ids_of job.inodes)) _ touched; fresh = is_fresh _ _ _ touched }
