-- What the plans are, in their own words.
use Rattle.std.specs.Prelude.{ℕ, ◌<◌, ◌≤◌, ◌↔◌, Bool, IsTrue, IsFalse, List, [], ◌∷◌, length, take, get_or}
use Rattle.std.specs.List.{AllByRecursion}
use Rattle.bfs_model.specs.Server.Conflicts.{conflict}
use Rattle.bfs_model.specs.Server.Groups.{footprints_at, AreDisjoint, IsCut}
use Rattle.bfs_model.specs.Laws.Overtaking.{footprint_at}
use Rattle.bfs_model.specs.Server.Footprints.{Footprint}
use Rattle.bfs_model.specs.Server.Tree.{Time, Inodes}
use Rattle.bfs_levels.specs.Planning.{Touch, group_length, levels_of, parts_groups, run_length, touches_at}

-- none is parted from an earlier one
abbrev pub AreJoined : (Footprint → Touch → Bool) → List Touch → Type 0
AreJoined parts_by [] = Unit {0}
AreJoined parts_by (call ∷ calls) = AllByRecursion (λ later. IsFalse (parts_by call.footprint later)) calls × AreJoined parts_by calls

-- the first n requests are without conflict just if the longest run has no fewer
abbrev pub RunsAreLongest : Type 0
RunsAreLongest = (inodes : Inodes) (ordinal : ℕ) (time : Time) (requests : List (List ℕ)) (n : ℕ) → n ≤ length requests
    → AreDisjoint (footprints_at inodes ordinal time (take n requests)) ↔ (n ≤ run_length inodes ordinal time requests)

-- the first n requests can be in one group just if the longest group has no fewer
abbrev pub GroupsAreLongest : Type 0
GroupsAreLongest = (inodes : Inodes) (ordinal : ℕ) (time : Time) (requests : List (List ℕ)) (n : ℕ) → n ≤ length requests
    → AreJoined parts_groups (touches_at inodes ordinal time (take n requests)) ↔ (n ≤ group_length inodes ordinal time requests)

-- no request of a group resolves a name in a directory that an earlier one writes
abbrev pub GroupsAreCut : Type 0
GroupsAreCut = (inodes : Inodes) (ordinal : ℕ) (time : Time) (requests : List (List ℕ)) → let group = take (group_length inodes ordinal time requests) requests in IsCut (footprints_at inodes ordinal time group) group

-- calls that conflict stand at levels that rise with their order
abbrev pub LevelsRise : Type 0
LevelsRise = (footprints : List Footprint) (i j : ℕ) → i < j → j < length footprints → IsTrue (conflict (footprint_at footprints i) (footprint_at footprints j))
    → get_or (levels_of footprints) i 0 < get_or (levels_of footprints) j 0
