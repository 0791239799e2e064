-- Requests of a group, or of a run, keep their footprints, and may be carried out apart and merged.
use Rattle.std.specs.Prelude.{◌≡◌, ◌≤◌, ℕ, List, ◌++◌, length}
use Rattle.bfs_model.specs.Server.Tree.{Time, Inodes, FileSystem, spent_ordinal}
use Rattle.bfs_model.specs.Server.Serial.{ordinal_after, inodes_after, replies_to}
use Rattle.bfs_model.specs.Server.WellFormed.{IsWellFormed}
use Rattle.bfs_model.specs.Server.Groups.{footprints_at, footprints_in_order, AreDisjoint, IsCut, AreSeen, all_closed, all_replies}

-- on every map, requests of which none conflicts with another keep their footprints
abbrev pub RunsKeepFootprints : Type 0
RunsKeepFootprints = (inodes : Inodes) (ordinal : ℕ) (time : Time) (requests : List (List ℕ))
    → AreDisjoint (footprints_at inodes ordinal time requests) → footprints_in_order inodes ordinal time requests ≡ footprints_at inodes ordinal time requests

-- and each may be carried out on inodes of its own that are the same where it looks
abbrev pub RunsAreMerged : Type 0
RunsAreMerged = (inodes : Inodes) (ordinal : ℕ) (time : Time) (requests : List (List ℕ)) (owns : List Inodes)
    → AreDisjoint (footprints_at inodes ordinal time requests) → AreSeen inodes (footprints_at inodes ordinal time requests) owns
    → (all_closed ordinal time requests (footprints_at inodes ordinal time requests) owns inodes ≡ inodes_after inodes ordinal time requests)
    × (all_replies ordinal time requests owns ≡ replies_to inodes ordinal time requests)

-- in a well-formed file system, requests keep their footprints where none resolves a name in a directory that an earlier one writes
abbrev pub GroupsKeepFootprints : Type 0
GroupsKeepFootprints = (files : FileSystem) (time : Time) (requests : List (List ℕ)) → IsWellFormed files
    → IsCut (footprints_at files.tree files.next_ordinal time requests) requests
    → footprints_in_order files.tree files.next_ordinal time requests ≡ footprints_at files.tree files.next_ordinal time requests

-- a batch may be carried out in parts, one after another
abbrev pub PartsFollow : Type 0
PartsFollow = (inodes : Inodes) (ordinal : ℕ) (time : Time) (first rest : List (List ℕ)) → ordinal ≤ spent_ordinal
    → (inodes_after inodes ordinal time (first ++ rest) ≡ inodes_after (inodes_after inodes ordinal time first) (ordinal_after ordinal (length first)) time rest)
    × (replies_to inodes ordinal time (first ++ rest) ≡ replies_to inodes ordinal time first ++ replies_to (inodes_after inodes ordinal time first) (ordinal_after ordinal (length first)) time rest)
