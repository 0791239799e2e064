-- The inodes that each of several requests is handed, when what all of them write is taken away from home.
use Rattle.std.specs.Prelude.{ℕ, Bool, not, ◌||◌, List, [], ◌∷◌, ◌++◌}
use Rattle.std.specs.FinMap.{retain_keys}
use Rattle.bfs_model.specs.Server.Tree.{Time, Inodes}
use Rattle.bfs_model.specs.Server.Serial.{ordinal_after}
use Rattle.bfs_model.specs.Server.Footprints.{Footprint, known, whole, footprint_of}
use Rattle.bfs_model.specs.Server.Conflicts.{among, closed}

-- what is moved for a call: nothing for one that touches all, which is carried out alone
abbrev pub moved_for : Footprint → List ℕ
moved_for (known reads writes) = writes
moved_for whole = []

abbrev pub all_moved : List Footprint → List ℕ
all_moved [] = []
all_moved (footprint ∷ footprints) = moved_for footprint ++ all_moved footprints

-- what stays at home
abbrev pub without : List ℕ → Inodes → Inodes
without ids inodes = retain_keys inodes (λ id. not (among ids id))

-- what a call is handed: its own inodes, put back into what stayed
abbrev pub share_of : Inodes → (home : Inodes) → Footprint → Inodes
share_of inodes home footprint = closed footprint inodes home

-- what is there for a call on its share: what no call has moved away, and what was moved for it
abbrev pub is_there : List Footprint → Footprint → ℕ → Bool
is_there footprints footprint id = not (among (all_moved footprints) id) || among (moved_for footprint) id

-- the footprints of requests, each on inodes of its own
abbrev pub footprints_on : (ordinal : ℕ) → Time → List (List ℕ) → List Inodes → List Footprint
footprints_on ordinal time (request ∷ requests) (own ∷ owns) = footprint_of own ordinal time request ∷ footprints_on (ordinal_after ordinal 1) time requests owns
footprints_on ordinal time requests owns = []
