-- What is split off a tree for some of a batch's requests.
use Rattle.std.specs.Prelude.{◌≡◌, ◌≤◌, ◌<◌, ◌+◌, ◌-◌, ℕ, IsFalse, List, [], map, length, is_some, All, get_or, drop}
use Rattle.std.specs.List.{AllZip}
use Rattle.std.specs.FinMap.{get}
use Rattle.bfs_model.specs.Server.Tree.{Time, Inodes}
use Rattle.bfs_model.specs.Server.Serial.{ordinal_after}
use Rattle.bfs_model.specs.Server.Footprints.{Footprint, IsFreshFor, footprint_of}
use Rattle.bfs_model.specs.Server.Conflicts.{among, is_whole}
use Rattle.bfs_model.specs.Laws.Overtaking.{footprint_at}
use Rattle.bfs_model.specs.Server.Shares.{moved_for, all_moved, without, share_of}
use Rattle.bfs_tree.specs.Slots.{Slots}
use Rattle.bfs_tree.specs.Tree.{at_home, lent}
use Rattle.bfs_footprint.specs.Seen.{footprint_seen}
use Rattle.bfs_footprint.specs.declared.footprints.Footprint as declared
use Rattle.bfs_levels.specs.declared.part.Part.{Part}
use Rattle.bfs_handover.specs.Loans.{ids_of, put_in}
use Rattle.bfs_handover.specs.Moves.{AreDistinct}
use Rattle.bfs_handover.specs.Jobs.{CanRun}
use Rattle.bfs_handover.specs.declared.job.Job.{Job}

-- requests of a batch, with what they touch: the first has that number and that ordinal
pub record PlannedPart : Type 0 where
  pub first : ℕ
  pub ordinal : ℕ
  pub time : Time
  pub requests : List (List ℕ)
  pub footprints : List Footprint

-- those of a batch from the place `first` on
abbrev pub part_of : (first ordinal : ℕ) → Time → (batch : List (List ℕ)) → List Footprint → PlannedPart
part_of first ordinal time batch footprints = record { first = first; ordinal = ordinal; time = time; requests = drop first batch; footprints = footprints }

-- those of a part of a batch
abbrev pub part_with : Part → List declared.Footprint → PlannedPart
part_with part footprints = part_of part.first part.ordinal part.time part.batch.now.requests (map footprint_seen footprints)

abbrev pub request_of : PlannedPart → (number : ℕ) → List ℕ
request_of part number = get_or part.requests (number - part.first) []

abbrev pub ordinal_of : PlannedPart → (number : ℕ) → ℕ
ordinal_of part number = ordinal_after part.ordinal (number - part.first)

abbrev pub footprint_for : PlannedPart → (number : ℕ) → Footprint
footprint_for part number = footprint_at part.footprints (number - part.first)

abbrev pub footprints_for : PlannedPart → (numbers : List ℕ) → List Footprint
footprints_for part numbers = map (footprint_for part) numbers

-- the number of a request that has its footprint on these inodes
pub record IsFoundOn (inodes : Inodes) (part : PlannedPart) (number : ℕ) : Type 0 where
  pub requested : number < part.first + length part.requests
  pub own : footprint_of inodes (ordinal_of part number) part.time (request_of part number) ≡ footprint_for part number

-- a number of these requests, of which it is known what it touches, and whose ordinal is fresh for that
pub record CanBeSplit (inodes : Inodes) (part : PlannedPart) (number : ℕ) : Type 0 where
  pub from : part.first ≤ number
  pub within : number < part.first + length part.footprints
  pub known : IsFalse (is_whole (footprint_for part number))
  pub fresh : IsFreshFor inodes (ordinal_of part number) (footprint_for part number)

-- the job of a number: its request, and just the inodes that its call writes
pub record IsJobOf (old new : Slots) (part : PlannedPart) (number : ℕ) (job : Job) : Type 0 where
  pub number_is : job.number ≡ number
  pub request : job.request.now ≡ request_of part number
  pub ordinal : job.ordinal ≡ ordinal_of part number
  pub time : job.time ≡ part.time
  pub share : put_in job.inodes (at_home new) ≡ share_of (at_home old) (at_home new) (footprint_for part number)
  pub ids : (id : ℕ) → among (ids_of job.inodes) id ≡ among (moved_for (footprint_for part number)) id
  pub distinct : AreDistinct (ids_of job.inodes)

-- what is split off: jobs that can be run on the tree that stays, in which all is at home but what the jobs have
pub record IsSplit (old new : Slots) (part : PlannedPart) (numbers : List ℕ) (jobs : List Job) : Type 0 where
  pub each : AllZip (IsJobOf old new part) numbers jobs
  pub home : at_home new ≡ without (all_moved (footprints_for part numbers)) (at_home old)
  pub out : (id : ℕ) → is_some (get (lent new) id) ≡ among (all_moved (footprints_for part numbers)) id
  pub can_run : All (CanRun new) jobs
