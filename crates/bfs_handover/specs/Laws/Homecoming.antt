-- Requests that are split off a tree, run and merged: what comes home is what they leave one after another.
use Rattle.std.specs.Prelude.{◌≡◌, ◌≤◌, ℕ, IsTrue, List, map, length, take}
use Rattle.std.specs.List.{AllZip, range_with_len}
use Rattle.std.specs.List.Sorted.{IsPermutation}
use Rattle.bfs_model.specs.Server.Tree.{spent_ordinal}
use Rattle.bfs_model.specs.Server.Serial.{inodes_after, replies_to}
use Rattle.bfs_model.specs.Server.Groups.{footprints_at, AreDisjoint}
use Rattle.bfs_tree.specs.Slots.{Slots}
use Rattle.bfs_tree.specs.Tree.{at_home, reach_of}
use Rattle.bfs_handover.specs.Splitting.{PlannedPart, IsSplit, footprints_for}
use Rattle.bfs_handover.specs.Jobs.{IsDone}
use Rattle.bfs_handover.specs.Merging.{AreOut, IsMerged}
use Rattle.bfs_handover.specs.declared.job.Job.{Job}
use Rattle.bfs_handover.specs.declared.job.Done.{Done}
use Rattle.bfs_handover.specs.declared.results.NumberedReply.{NumberedReply}

-- so many numbers, from the first on
abbrev pub numbers_from : (first count : ℕ) → List ℕ
numbers_from first count = range_with_len first count

-- of all requests of a part of which it is known what they touch
abbrev pub numbers_of : PlannedPart → List ℕ
numbers_of part = numbers_from part.first (length part.footprints)

abbrev pub requests_of : PlannedPart → List (List ℕ)
requests_of part = take (length part.footprints) part.requests

-- The laws -----------------------------------------------------------------------------------------------------------------

-- Results of jobs that were split off a tree may be merged into what stayed: whatever their order
abbrev pub ResultsAreOut : Type 0
ResultsAreOut = (old new : Slots) (part : PlannedPart) (numbers : List ℕ) (jobs run : List Job) (dones : List Done)
    → AreDisjoint (footprints_for part numbers) → IsSplit old new part numbers jobs → IsPermutation jobs run → AllZip (IsDone new) run dones
    → AreOut new dones

-- Requests of which none conflicts with another are split off a tree, run in any order on what stayed, and merged: inodes and
-- replies are those of the requests carried out one after another, and no inode is missing
abbrev pub ResultsComeHome : Type 0
ResultsComeHome = (old new after : Slots) (part : PlannedPart) (jobs run : List Job) (dones : List Done) (replies : List NumberedReply)
    → part.ordinal ≤ spent_ordinal → part.footprints ≡ footprints_at (at_home old) part.ordinal part.time (requests_of part) → AreDisjoint part.footprints
    → IsSplit old new part (numbers_of part) jobs → IsPermutation jobs run → AllZip (IsDone new) run dones → IsMerged new after (numbers_of part) dones replies
    → (at_home after ≡ inodes_after (at_home old) part.ordinal part.time (requests_of part))
    × (map (λ reply. reply.bytes.items) replies ≡ replies_to (at_home old) part.ordinal part.time (requests_of part))
    × IsTrue ((reach_of after).whole)
