-- The requests of a batch from a place on.
use Rattle.std.specs.Prelude.{ℕ, ◌+◌, ◌-◌, List, drop, take}
use Rattle.bfs_model.specs.Server.Tree.{Inodes}
use Rattle.bfs_model.specs.Server.Footprints.{Footprint}
use Rattle.bfs_model.specs.Server.Groups.{footprints_at}
use Rattle.bfs_model.specs.Server.Serial.{ordinal_after}
use Rattle.bfs_levels.specs.Planning.{group_length, run_length}
use Rattle.bfs_levels.specs.Requests.{requests_from}
use Rattle.bfs_levels.specs.declared.part.Part.{Part}

abbrev pub requests_in : Part → List (List ℕ)
requests_in part = drop part.first part.batch.now.requests

-- those before a place of the batch
abbrev pub requests_before : Part → (end : ℕ) → List (List ℕ)
requests_before part end = drop part.first (take end part.batch.now.requests)

-- the first so many
abbrev pub first_requests : Part → (count : ℕ) → List (List ℕ)
first_requests part count = requests_from part.first count part.batch.now.requests

abbrev pub ordinal_at : Part → (number : ℕ) → ℕ
ordinal_at part number = ordinal_after part.ordinal (number - part.first)

-- the part behind the first so many
abbrev pub part_after : Part → (count : ℕ) → Part
part_after part count = record part { first = part.first + count; ordinal = ordinal_after part.ordinal count }

-- how many of its requests before a place are in the longest run, or group, that begins with the first, and what they touch
abbrev pub run_count : Inodes → Part → (end : ℕ) → ℕ
run_count inodes part end = run_length inodes part.ordinal part.time (requests_before part end)

abbrev pub group_count : Inodes → Part → (end : ℕ) → ℕ
group_count inodes part end = group_length inodes part.ordinal part.time (requests_before part end)

abbrev pub footprints_before : Inodes → Part → (end count : ℕ) → List Footprint
footprints_before inodes part end count = footprints_at inodes part.ordinal part.time (take count (requests_before part end))
