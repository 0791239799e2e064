-- The numbers of a group's requests, level after level.
use Rattle.std.specs.Prelude.{◌≡◌, ℕ, zero, suc, ◌+◌, ◌<◌, ◌≤◌, ◌==◌, IsFalse, List, [], ◌∷◌, length, map, get_or, slice_set, if◌then◌else◌}
use Rattle.std.specs.Global.{Global}
use Rattle.std.specs.List.{AllByRecursion}
use Rattle.std.specs.declared.vec.Vec.{Vec}
use Rattle.bfs_model.specs.Server.Tree.{Time, Inodes}
use Rattle.bfs_model.specs.Server.Footprints.{Footprint}
use Rattle.bfs_model.specs.Server.Conflicts.{is_whole}
use Rattle.bfs_model.specs.Server.Groups.{IsCut, footprints_at}
use Rattle.bfs_model.specs.Server.WellFormed.{IsWellFormed}
use Rattle.bfs_levels.specs.Planning.{levels_of}
use Rattle.bfs_levels.specs.Requests.{requests_from}
use Rattle.bfs_levels.specs.declared.group.Group.{Group}
use Rattle.bfs_footprint.specs.Seen.{footprint_seen}
use Rattle.bfs_handover.specs.declared.results.NumberedReply.{NumberedReply}

-- Groups --------------------------------------------------------------------------------------------------------------------

-- a group of which it is known what its requests touch, as it was planned on these inodes
pub record IsGroupOf (inodes : Inodes) (first ordinal : ℕ) (time : Time) (batch : List (List ℕ)) (footprints : List Footprint) (levels : List ℕ) : Type 0 where
  pub formed : IsWellFormed (record { tree = inodes; next_ordinal = ordinal; last_time = time })
  pub found : footprints ≡ footprints_at inodes ordinal time (requests_from first (length footprints) batch)
  pub within : first + length footprints ≤ length batch
  pub known : AllByRecursion (λ footprint. IsFalse (is_whole footprint)) footprints
  pub cut : IsCut (footprints_at inodes ordinal time (requests_from first (length footprints) batch)) (requests_from first (length footprints) batch)
  pub levelled : levels ≡ levels_of footprints

-- what was planned together from a place on: two requests and more are a group
pub record IsPlanned (inodes : Inodes) (ordinal : ℕ) (time : Time) (batch : List (List ℕ)) (place : ℕ) (group : Group) : Type 0 where
  pub first : group.first ≡ place
  pub some : 0 < length group.footprints.items
  pub within : place + length group.footprints.items ≤ length batch
  pub together : (length group.footprints.items ≡ 1 → ⊥) → IsGroupOf inodes place ordinal time batch (map footprint_seen group.footprints.items) group.level_of.items

-- Numbers -------------------------------------------------------------------------------------------------------------------

-- the places, from one on, at which a level stands
abbrev pub places_from : (place : ℕ) → (levels : List ℕ) → (level : ℕ) → List ℕ
places_from place [] level = []
places_from place (other ∷ levels) level = if other == level then place ∷ places_from (place + 1) levels level else places_from (place + 1) levels level

-- the numbers of the requests of a level: the first of all has that number
abbrev pub numbers_at : (first : ℕ) → (levels : List ℕ) → (level : ℕ) → List ℕ
numbers_at first levels level = map (λ place. first + place) (places_from 0 levels level)

-- the numbers of one level after another, from that level on to the last
abbrev pub AreInLevels : (first : ℕ) → (levels : List ℕ) → (level : ℕ) → List (Vec ℕ Global) → Type 0
AreInLevels first levels level [] = (place : ℕ) → place < length levels → get_or levels place 0 < level
AreInLevels first levels level (numbers ∷ others) = (numbers.items ≡ numbers_at first levels level) × AreInLevels first levels (level + 1) others

-- the numbers that stand at a level
abbrev pub bucket_at : List (Vec ℕ Global) → (level : ℕ) → List ℕ
bucket_at [] level = []
bucket_at (numbers ∷ others) zero = numbers.items
bucket_at (numbers ∷ others) (suc level) = bucket_at others level

-- the numbers so far stand at their levels
pub record AreKept (first : ℕ) (levels : List ℕ) (buckets : List (Vec ℕ Global)) : Type 0 where
  pub each : (level : ℕ) → bucket_at buckets level ≡ numbers_at first levels level
  pub below : (place : ℕ) → place < length levels → get_or levels place 0 < length buckets

-- Replies in their places ---------------------------------------------------------------------------------------------------

-- each reply at the place of its number
abbrev pub all_put : List NumberedReply → List (List ℕ) → List (List ℕ)
all_put [] texts = texts
all_put (reply ∷ replies) texts = all_put replies (slice_set texts reply.number reply.bytes.items)
