use Rattle.std.proofs.Common.{◌∙◌, ◌++◌, sym, ap}
use Rattle.std.specs.Prelude.{option_to_list}
use Rattle.bfs_view_change.specs.Changes.Keeping.{if_for}
use Rattle.bfs_view_change.proofs.Kept.{one_more}
use Rattle.bfs_view_change.proofs.keeping.copies_for.Goals as goal

pub loop-one-preserved : goal.loop-one-preserved
loop-one-preserved c =
    c.in_ok-add_copy.ensures ∙ ap (λ so_far. so_far ++ option_to_list (if_for c.args.view c.one-item.result)) c.loop-one.invariant
    ∙ sym (one_more c.args.view c.args.kept.now c.loop-one.one-index c.one-item.result c.loop-one-test.true c.one-item.is)
