-- Requests that are carried out together: runs, which are disjoint, and groups, which are cut where names are resolved.
use Rattle.std.specs.Prelude.{ℕ, IsTrue, IsFalse, List, [], ◌∷◌}
use Rattle.std.specs.List.{AllByRecursion}
use Rattle.bfs_model.specs.Server.Tree.{Time, Inodes}
use Rattle.bfs_model.specs.Server.Serial.{ordinal_after, answer}
use Rattle.bfs_model.specs.Server.Footprints.{Footprint, footprint_of}
use Rattle.bfs_model.specs.Server.Conflicts.{among, is_written, conflict, resolved_of, AgreeOn, closed}

-- the footprints of requests that begin at an ordinal, all found on the same inodes
abbrev pub footprints_at : Inodes → (ordinal : ℕ) → Time → List (List ℕ) → List Footprint
footprints_at inodes ordinal time [] = []
footprints_at inodes ordinal time (request ∷ requests) = footprint_of inodes ordinal time request ∷ footprints_at inodes (ordinal_after ordinal 1) time requests

-- each found when it is carried out, one after another
abbrev pub footprints_in_order : Inodes → (ordinal : ℕ) → Time → List (List ℕ) → List Footprint
footprints_in_order inodes ordinal time [] = []
footprints_in_order inodes ordinal time (request ∷ requests) =
    footprint_of inodes ordinal time request ∷ footprints_in_order (answer inodes ordinal time request).0 (ordinal_after ordinal 1) time requests

-- none conflicts with any other
abbrev pub AreDisjoint : List Footprint → Type 0
AreDisjoint [] = Unit {0}
AreDisjoint (footprint ∷ footprints) = AllByRecursion (λ other. IsFalse (conflict footprint other)) footprints × AreDisjoint footprints

-- no request resolves a name in a directory that an earlier footprint writes
abbrev pub IsCutBefore : Footprint → List (List ℕ) → Type 0
IsCutBefore footprint requests = AllByRecursion (λ request. (id : ℕ) → IsTrue (among (resolved_of request) id) → IsFalse (is_written footprint id)) requests

abbrev pub IsCut : List Footprint → List (List ℕ) → Type 0
IsCut [] requests = Unit {0}
IsCut (footprint ∷ footprints) [] = Unit {0}
IsCut (footprint ∷ footprints) (request ∷ requests) = IsCutBefore footprint requests × IsCut footprints requests

-- What is done of each on inodes of its own, which are the same where it looks -----------------------------------------------

abbrev pub AreSeen : Inodes → List Footprint → List Inodes → Type 0
AreSeen inodes [] [] = Unit {0}
AreSeen inodes [] (own ∷ owns) = ⊥
AreSeen inodes (footprint ∷ footprints) [] = ⊥
AreSeen inodes (footprint ∷ footprints) (own ∷ owns) = AgreeOn footprint inodes own × AreSeen inodes footprints owns

-- all that the requests left where they write, put into the inodes in order
abbrev pub all_closed : (ordinal : ℕ) → Time → List (List ℕ) → List Footprint → (owns : List Inodes) → Inodes → Inodes
all_closed ordinal time (request ∷ requests) (footprint ∷ footprints) (own ∷ owns) inodes =
    all_closed (ordinal_after ordinal 1) time requests footprints owns (closed footprint (answer own ordinal time request).0 inodes)
all_closed ordinal time requests footprints owns inodes = inodes

abbrev pub all_replies : (ordinal : ℕ) → Time → List (List ℕ) → (owns : List Inodes) → List (List ℕ)
all_replies ordinal time (request ∷ requests) (own ∷ owns) = (answer own ordinal time request).1 ∷ all_replies (ordinal_after ordinal 1) time requests owns
all_replies ordinal time requests owns = []
