-- Runs, groups and levels of calls, by their footprints.
use Rattle.std.specs.Prelude.{ℕ, ◌+◌, max, Bool, ◌||◌, List, [], ◌∷◌, ◌++◌, if◌then◌else◌}
use Rattle.std.specs.List.{list_any}
use Rattle.bfs_model.specs.Server.Tree.{Time, Inodes}
use Rattle.bfs_model.specs.Server.Serial.{ordinal_after}
use Rattle.bfs_model.specs.Server.Footprints.{Footprint, footprint_of}
use Rattle.bfs_model.specs.Server.Conflicts.{conflict, is_written, resolved_of}
use Rattle.bfs_model.specs.Server.Conflicts.{is_whole}
use Rattle.bfs_levels.specs.declared.plans.Rule.{Rule}
use Rattle.bfs_levels.specs.declared.plans.Rule.TheVariants.{Runs, Groups}

-- Levels ---------------------------------------------------------------------------------------------------------------

-- one more than the highest level of the calls that pass a test, or 0 where none does
abbrev pub height : (Footprint → Bool) → List (Footprint × ℕ) → ℕ
height test [] = 0
height test (call ∷ calls) = max (if test call.0 then call.1 + 1 else 0) (height test calls)

-- the level of a call: 0, or one more than the highest level of the earlier ones that conflict with it
abbrev pub level_behind : (earlier : List (Footprint × ℕ)) → Footprint → ℕ
level_behind earlier footprint = height (λ other. conflict other footprint) earlier

abbrev pub levels_behind : (earlier : List (Footprint × ℕ)) → List Footprint → List ℕ
levels_behind earlier [] = []
levels_behind earlier (footprint ∷ footprints) =
    level_behind earlier footprint ∷ levels_behind ((footprint, level_behind earlier footprint) ∷ earlier) footprints

abbrev pub levels_of : List Footprint → List ℕ
levels_of footprints = levels_behind [] footprints

-- Runs and groups ------------------------------------------------------------------------------------------------------

-- a call as it is planned: its footprint, and the directories in which it resolves names
pub record Touch : Type 0 where
  pub footprint : Footprint
  pub resolved : List ℕ

-- the call of a request, as the inodes are
abbrev pub touch_by : Inodes → (ordinal : ℕ) → Time → (request : List ℕ) → Touch
touch_by inodes ordinal time request = record { footprint = footprint_of inodes ordinal time request; resolved = resolved_of request }

-- the calls of requests that begin at an ordinal, as the inodes are before the first
abbrev pub touches_at : Inodes → (ordinal : ℕ) → Time → List (List ℕ) → List Touch
touches_at inodes ordinal time [] = []
touches_at inodes ordinal time (request ∷ requests) = touch_by inodes ordinal time request ∷ touches_at inodes (ordinal_after ordinal 1) time requests

-- a call can't be in one run with an earlier one with which it conflicts
abbrev pub parts_runs : Footprint → Touch → Bool
parts_runs earlier call = conflict earlier call.footprint

-- nor in one group with an earlier one that writes a directory in which it resolves names, or where one of them has all inodes
abbrev pub parts_groups : Footprint → Touch → Bool
parts_groups earlier call = is_whole earlier || is_whole call.footprint || list_any (is_written earlier) call.resolved

abbrev pub parts : Rule → Footprint → Touch → Bool
parts Runs = parts_runs
parts Groups = parts_groups

-- how many of the calls, one after another, are parted neither from these earlier ones nor from one another
abbrev pub count_joined : (parts_by : Footprint → Touch → Bool) → (earlier : List Footprint) → List Touch → ℕ
count_joined parts_by earlier [] = 0
count_joined parts_by earlier (call ∷ calls) =
    if list_any (λ other. parts_by other call) earlier then 0 else count_joined parts_by (earlier ++ call.footprint ∷ []) calls + 1

-- how many requests are in the longest run, or group, that begins with the first of these
abbrev pub run_length : Inodes → (ordinal : ℕ) → Time → List (List ℕ) → ℕ
run_length inodes ordinal time requests = count_joined parts_runs [] (touches_at inodes ordinal time requests)

abbrev pub group_length : Inodes → (ordinal : ℕ) → Time → List (List ℕ) → ℕ
group_length inodes ordinal time requests = count_joined parts_groups [] (touches_at inodes ordinal time requests)
