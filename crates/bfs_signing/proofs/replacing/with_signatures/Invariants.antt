use Rattle.std.proofs.Common.{◌≡◌, map}
use Rattle.std.specs.List.{fold}
use Rattle.bfs_frames.specs.Parcels.{told_by}
use Rattle.bfs_signing.specs.Requests.{none_replaced, replaced_also}
use Rattle.bfs_signing.proofs.replacing.with_signatures.Given as goal

abbrev pub invariant-loop-parcel : goal.invariant-loop-parcel
invariant-loop-parcel l =
    fold (replaced_also (map (λ bytes. bytes.items) l.signatures)) l.so_far (map told_by l.parcel-iterator.rest.items)
    ≡ fold (replaced_also (map (λ bytes. bytes.items) l.signatures)) none_replaced (map told_by l.fn.parcels.items)
