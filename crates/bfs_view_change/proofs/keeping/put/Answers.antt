use Rattle.std.proofs.Common.{◌∙◌}
use Rattle.bfs_view_change.proofs.Kept.{put_again}
use Rattle.bfs_view_change.proofs.keeping.put.Goals as goal

pub returns-then-place-len-clause-back : goal.returns-then-place-len-clause-back
returns-then-place-len-clause-back g c =
    put_again c.args.items.now.items c.args.place c.replace.new.dest c.replace.result c.index_mut.result.now (c.replace.ensures.value ∙ c.index_mut.ensures.value)
