use Rattle.std.proofs.Common.{◌∙◌, ◌<◌, length, ap, slice_set, arith}
use Rattle.std.proofs.lemmas.List.Edits.{map_over_more}
use Rattle.bfs_view_change.specs.Changes.Keeping.{if_above}
use Rattle.bfs_view_change.proofs.keeping.drop_all_up_to.Goals as goal

pub loop-place-preserved : goal.loop-place-preserved
loop-place-preserved c =
    let within : c.loop-place.place < length c.args.changes.now.items = omega (arith, c.loop-place-test.true, c.len-place-end.ensures) in
    ap (slice_set c.loop-place.changes.items c.loop-place.place) c.drop_up_to.ensures
    ∙ map_over_more (if_above c.args.view) c.args.changes.now.items c.loop-place.changes.items c.loop-place.place c.index_mut.result.now within c.loop-place.invariant c.index_mut.ensures.value
