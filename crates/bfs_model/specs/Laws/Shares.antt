-- Requests of which none conflicts with another, each carried out on its share.
use Rattle.std.specs.Prelude.{◌≡◌, ℕ, IsTrue, List, map}
use Rattle.std.specs.List.{AllByRecursion}
use Rattle.bfs_model.specs.Server.Tree.{Time, Inodes}
use Rattle.bfs_model.specs.Server.Serial.{inodes_after, replies_to}
use Rattle.bfs_model.specs.Server.Footprints.{Footprint}
use Rattle.bfs_model.specs.Server.Conflicts.{is_touched}
use Rattle.bfs_model.specs.Server.Groups.{footprints_at, AreDisjoint, all_closed, all_replies}
use Rattle.bfs_model.specs.Server.Shares.{all_moved, without, share_of, is_there, footprints_on}

-- requests of which none conflicts with another, each carried out on its share, and what they leave brought home
abbrev pub RunsComeHome : Type 0
RunsComeHome = (inodes : Inodes) (ordinal : ℕ) (time : Time) (requests : List (List ℕ)) → AreDisjoint (footprints_at inodes ordinal time requests)
    → let footprints = footprints_at inodes ordinal time requests in
    let home = without (all_moved footprints) inodes in
    let shares = map (share_of inodes home) footprints in
    (all_closed ordinal time requests footprints shares home ≡ inodes_after inodes ordinal time requests)
    × (all_replies ordinal time requests shares ≡ replies_to inodes ordinal time requests)

-- each call finds on its share all that it touches
abbrev pub SharesKnow : Type 0
SharesKnow = (footprints : List Footprint) → AreDisjoint footprints → AllByRecursion (λ footprint. (id : ℕ) → IsTrue (is_touched footprint id) → IsTrue (is_there footprints footprint id)) footprints

-- and on its share it has the footprint found at first
abbrev pub SharesHaveFootprints : Type 0
SharesHaveFootprints = (inodes : Inodes) (ordinal : ℕ) (time : Time) (requests : List (List ℕ)) → AreDisjoint (footprints_at inodes ordinal time requests)
    → let footprints = footprints_at inodes ordinal time requests in
    footprints_on ordinal time requests (map (share_of inodes (without (all_moved footprints) inodes)) footprints) ≡ footprints
