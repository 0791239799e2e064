use Rattle.std.proofs.Common.{◌∙◌, ◌++◌, map, sym, ap}
use Rattle.std.specs.Prelude.{option_to_list}
use Rattle.bfs_signatures.specs.Hashes.{leaf_hash}
use Rattle.bfs_frames.specs.Parcels.{told_by}
use Rattle.bfs_signing.specs.Requests.{text_told}
use Rattle.bfs_signing.proofs.Texts.{leaves_more}
use Rattle.bfs_signing.proofs.requests.all_leaves.Goals as goal

pub loop-parcel-preserved : goal.loop-parcel-preserved
loop-parcel-preserved c =
    c.in_ok-add_leaf.ensures ∙ ap (λ so_far. so_far ++ map leaf_hash (option_to_list (text_told (told_by c.parcel-item.result)))) c.loop-parcel.invariant
    ∙ sym (leaves_more c.args.parcels.now c.loop-parcel.parcel-index c.parcel-item.result c.loop-parcel-test.true c.parcel-item.is)
