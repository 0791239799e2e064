use Rattle.std.proofs.Common.{◌≡◌, map, take}
use Rattle.bfs_signatures.specs.Hashes.{leaf_hash}
use Rattle.bfs_frames.specs.Parcels.{told_by}
use Rattle.bfs_signing.specs.Requests.{texts_told}
use Rattle.bfs_signing.proofs.requests.all_leaves.Given as goal

abbrev pub invariant-loop-parcel : goal.invariant-loop-parcel
invariant-loop-parcel l = l.leaves.items ≡ map leaf_hash (texts_told (map told_by (take l.parcel-index l.parcels)))
