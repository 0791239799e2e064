-- All requests of a batch, which are one run, and the jobs that were split off a tree for them.
use Rattle.std.specs.Prelude.{◌≡◌, ℕ, IsFalse, List, length, map, take}
use Rattle.std.specs.List.{list_any}
use Rattle.std.specs.List.Sorted.{IsStrictlyIncreasing}
use Rattle.bfs_model.specs.Server.Tree.{Time, Inodes}
use Rattle.bfs_model.specs.Server.Conflicts.{is_whole}
use Rattle.bfs_model.specs.Server.Groups.{AreDisjoint, footprints_at}
use Rattle.bfs_tree.specs.Slots.{Slots}
use Rattle.bfs_footprint.specs.Seen.{footprint_seen}
use Rattle.bfs_footprint.specs.declared.footprints.Footprint as declared
use Rattle.bfs_levels.specs.Planning.{run_length}
use Rattle.bfs_handover.specs.Splitting.{PlannedPart, footprints_for, IsSplit}
use Rattle.bfs_handover.specs.declared.job.Job.{Job}

-- what the requests of the longest run touch, which are all requests, and of each of which it is known
pub record IsRun (inodes : Inodes) (ordinal : ℕ) (time : Time) (requests : List (List ℕ)) (footprints : List declared.Footprint) : Type 0 where
  pub longest : map footprint_seen footprints ≡ footprints_at inodes ordinal time (take (run_length inodes ordinal time requests) requests)
  pub count : length footprints ≡ run_length inodes ordinal time requests
  pub all : length footprints ≡ length requests
  pub certain : IsFalse (list_any (λ footprint. is_whole (footprint_seen footprint)) footprints)

-- the jobs of these numbers, which rise: none conflicts with another
pub record AreSplit (old new : Slots) (numbers : List ℕ) (jobs : List Job) : Type 0 where
  pub part : PlannedPart
  pub rising : IsStrictlyIncreasing numbers
  pub apart : AreDisjoint (footprints_for part numbers)
  pub split : IsSplit old new part numbers jobs
