-- What a plan keeps of the calls in it, and which calls join them.
use Rattle.std.specs.Prelude.{◌≡◌, ℕ, List, [], map, Option, None, Some, if◌then◌else◌}
use Rattle.std.specs.List.{list_any}
use Rattle.bfs_model.specs.Server.Footprints.{Footprint}
use Rattle.bfs_footprint.specs.Seen.{footprint_seen}
use Rattle.bfs_model.specs.Server.Tree.{Inodes}
use Rattle.bfs_levels.specs.Planning.{Touch, count_joined, level_behind, levels_of, parts, touches_at}
use Rattle.bfs_levels.specs.Parts.{requests_before}
use Rattle.bfs_levels.specs.declared.part.Part.{Part}
use Rattle.bfs_levels.specs.Marking.{IsMarked, levelled}
use Rattle.bfs_levels.specs.declared.plans.Plan.{Plan}
use Rattle.bfs_levels.specs.declared.plans.Rule.{Rule}

abbrev pub calls_in : Plan → List Footprint
calls_in plan = map footprint_seen plan.footprints.items

-- their levels, and the marks of them all
pub record IsPlan (plan : Plan) : Type 0 where
  pub levels_are : plan.level_of.items ≡ levels_of (calls_in plan)
  pub marked : IsMarked plan.marks (levelled (calls_in plan))

-- the level of a call behind these, where it isn't parted from one of them
abbrev pub level_joined : Rule → List Footprint → Touch → Option ℕ
level_joined rule calls call = if list_any (λ earlier. parts rule earlier call) calls then None else Some (level_behind (levelled calls) call.footprint)

-- how many of the requests before a place join, one after another
abbrev pub planned_count : Rule → Inodes → Part → (end : ℕ) → ℕ
planned_count rule inodes part end = count_joined (parts rule) [] (touches_at inodes part.ordinal part.time (requests_before part end))
