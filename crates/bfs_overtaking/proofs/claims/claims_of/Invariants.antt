use Rattle.std.proofs.Common.{map, take}
use Rattle.bfs_footprint.specs.Seen.{footprint_seen}
use Rattle.bfs_overtaking.specs.Inside.Claims.{AreClaimed, all_wait}
use Rattle.bfs_overtaking.proofs.claims.claims_of.Given as goal

-- the claims so far are those of the first calls
abbrev pub invariant-loop-place : goal.invariant-loop-place
invariant-loop-place l = AreClaimed l.claims (take l.place (all_wait (map footprint_seen l.footprints)))
