-- Requests that are split off a tree, run and merged, whatever their places in the batch: each is carried out on its share.
use Rattle.std.specs.Prelude.{◌≡◌, ℕ, IsTrue, List, [], ◌∷◌, map, All}
use Rattle.std.specs.List.{AllZip}
use Rattle.std.specs.List.Sorted.{IsPermutation, IsStrictlyIncreasing}
use Rattle.bfs_model.specs.Server.Tree.{Inodes}
use Rattle.bfs_model.specs.Server.Serial.{answer}
use Rattle.bfs_model.specs.Server.Conflicts.{closed}
use Rattle.bfs_model.specs.Server.Shares.{all_moved, without, share_of}
use Rattle.bfs_tree.specs.Slots.{Slots}
use Rattle.bfs_tree.specs.Tree.{at_home, reach_of}
use Rattle.bfs_handover.specs.Splitting.{CanBeSplit, IsSplit, PlannedPart, footprint_for, footprints_for, ordinal_of, request_of}
use Rattle.bfs_handover.specs.Jobs.{IsDone}
use Rattle.bfs_handover.specs.Merging.{IsMerged}
use Rattle.bfs_handover.specs.declared.job.Job.{Job}
use Rattle.bfs_handover.specs.declared.job.Done.{Done}
use Rattle.bfs_handover.specs.declared.results.NumberedReply.{NumberedReply}

-- what stays at home when the inodes are moved that the requests of these numbers write
abbrev pub stays : Inodes → PlannedPart → (numbers : List ℕ) → Inodes
stays inodes part numbers = without (all_moved (footprints_for part numbers)) inodes

-- a request carried out on its share
abbrev pub outcome_for : (inodes home : Inodes) → PlannedPart → (number : ℕ) → Inodes × List ℕ
outcome_for inodes home part number = answer (share_of inodes home (footprint_for part number)) (ordinal_of part number) part.time (request_of part number)

-- the inodes when what each left where it writes has come back
abbrev pub all_back : (inodes home : Inodes) → PlannedPart → (numbers : List ℕ) → Inodes → Inodes
all_back inodes home part [] left = left
all_back inodes home part (number ∷ numbers) left = all_back inodes home part numbers (closed (footprint_for part number) (outcome_for inodes home part number).0 left)

-- the inodes and the replies when the requests of these numbers are carried out, each on its share
pub record AreCarriedOut (inodes after : Inodes) (part : PlannedPart) (numbers : List ℕ) (replies : List NumberedReply) : Type 0 where
  pub home : after ≡ all_back inodes (stays inodes part numbers) part numbers (stays inodes part numbers)
  pub numbered : map (λ reply. reply.number) replies ≡ numbers
  pub answers : map (λ reply. reply.bytes.items) replies ≡ map (λ number. (outcome_for inodes (stays inodes part numbers) part number).1) numbers

-- The law ------------------------------------------------------------------------------------------------------------------

-- so they are where they are split off a tree, run in any order on what stayed, and merged; and no inode is missing
abbrev pub SplitRequestsAreCarriedOut : Type 0
SplitRequestsAreCarriedOut = (old new after : Slots) (part : PlannedPart) (numbers : List ℕ) (jobs run : List Job) (dones : List Done) (replies : List NumberedReply)
    → IsStrictlyIncreasing numbers → All (CanBeSplit (at_home old) part) numbers
    → IsSplit old new part numbers jobs → IsPermutation jobs run → AllZip (IsDone new) run dones → IsMerged new after numbers dones replies
    → AreCarriedOut (at_home old) (at_home after) part numbers replies × IsTrue ((reach_of after).whole)
